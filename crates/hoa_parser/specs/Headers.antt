-- What the names of headers say, as code tells them apart. The grammar needs only which names are known.
use Rattle.std.specs.Prelude.{ℕ, List, codes, if◌then◌else◌}
use Rattle.aut_base.specs.Text.{same_text}
use Rattle.hoa_parser.specs.declared.header.Header.{Header}
use Rattle.hoa_parser.specs.declared.header.Header.TheVariants as header

-- What the name of a header says about what follows it.
abbrev pub header_of : List ℕ → Header
header_of name =
    if same_text name (codes "States") then header.States else
    if same_text name (codes "Start") then header.Start else
    if same_text name (codes "AP") then header.Ap else
    if same_text name (codes "Alias") then header.Alias else
    if same_text name (codes "Acceptance") then header.Acceptance else
    if same_text name (codes "acc-name") then header.AccName else
    if same_text name (codes "tool") then header.Tool else
    if same_text name (codes "name") then header.Name else
    if same_text name (codes "properties") then header.Properties else
    if same_text name (codes "HOA") then header.Opening else
    if same_text name (codes "State") then header.State else
    header.Other
