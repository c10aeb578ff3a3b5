use Rattle.std.proofs.Common.{◌≡◌, ◌&&◌, ◌++◌, true, false, map, ap, sym, ◌∙◌, length, nat_le}
use Rattle.std.specs.List.{list_all}
use Rattle.hoa_reader.proofs.counting.BodySums.{body_props}
use Rattle.hoa_reader.proofs.validity.RuleParts.{all_labels}
use Rattle.hoa_reader.specs.declared.elaborate.sums.Sums.{Sums}
use Rattle.hoa_reader.specs.inner.PickedOut.{alias_def}
use Rattle.hoa_parser.specs.Raw.{written}
use Rattle.hoa_reader.specs.Validity.{AliasLine, alias_lines, body_labels, written_names, props_below}
use Rattle.hoa_reader.proofs.elaborate.broken.propositions_have_names.Goals as goal

pub returns-then-aliases_props_below : goal.returns-then-aliases_props_below
returns-then-aliases_props_below c =
    let w = written c.args.raw.now in
    let n = length c.args.parts.now.names.now in
    let count : n ≡ length (written_names w) = ap length c.requires.names in
    let aliases : list_all (λ (line : AliasLine). props_below n line.label) (alias_lines w) ≡ true =
    ap (list_all (λ (line : AliasLine). props_below n line.label)) (sym (ap (map alias_def) c.deref.ensures.value ∙ c.requires.defs)) ∙ sym c.aliases_props_below.ensures
    ∙ c.if-aliases_props_below.true in
    ap (λ (s : Sums). nat_le s.props n) c.requires.sums
    ∙ sym (body_props _ n w.states)
    ∙ ap (λ b. b && list_all (props_below n) (body_labels w.states)) (sym aliases)
    ∙ sym (all_labels (props_below n) (alias_lines w) (body_labels w.states))
    ∙ ap (λ m. list_all (props_below m) (map (λ (line : AliasLine). line.label) (alias_lines w) ++ body_labels w.states)) count

pub returns-else-aliases_props_below : goal.returns-else-aliases_props_below
returns-else-aliases_props_below c =
    let w = written c.args.raw.now in
    let n = length c.args.parts.now.names.now in
    let count : n ≡ length (written_names w) = ap length c.requires.names in
    let aliases : false ≡ list_all (λ (line : AliasLine). props_below n line.label) (alias_lines w) =
    sym c.if-aliases_props_below.false ∙ c.aliases_props_below.ensures
    ∙ ap (list_all (λ (line : AliasLine). props_below n line.label)) (ap (map alias_def) c.deref.ensures.value ∙ c.requires.defs) in
    c.if-aliases_props_below.false
    ∙ ap (λ b. b && list_all (props_below n) (body_labels w.states)) aliases
    ∙ sym (all_labels (props_below n) (alias_lines w) (body_labels w.states))
    ∙ ap (λ m. list_all (props_below m) (map (λ (line : AliasLine). line.label) (alias_lines w) ++ body_labels w.states)) count
