-- Lines of the text, as the writer adds them.
use Rattle.std.specs.Prelude.{ℕ, List, ◌++◌, flat_map, length, codes}
use Rattle.std.specs.Fmt.{decimal}
use Rattle.aut_base.specs.LabelText.{label_text}
use Rattle.aut_core.specs.declared.link.Link.{Link}
use Rattle.aut_base.specs.Text.{line}
pub use Rattle.hoa_writer.specs.CanonicalText.{name_line}
use Rattle.hoa_writer.specs.CanonicalText.{marks_text, quoted}
use Rattle.label_guards.specs.Store.{Store, label_in}

abbrev pub start_lines : List ℕ → List ℕ
start_lines starts = flat_map (λ s. line (codes "Start: " ++ decimal s)) starts

abbrev pub names_line : List (List ℕ) → List ℕ
names_line names = line (codes "AP: " ++ (decimal (length names) ++ flat_map (λ name. codes " " ++ quoted name) names))

-- the line of an edge whose label is a guard of this store
abbrev pub link_line : Store → Link → List ℕ
link_line s l = line (codes "[" ++ (label_text s.names (label_in s l.guard) ++ (codes "] " ++ (decimal l.to ++ marks_text l.marks))))
