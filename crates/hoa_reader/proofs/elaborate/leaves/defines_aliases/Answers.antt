use Rattle.std.proofs.Common.{◌≡◌, ◌&&◌, ◌+◌, Bool, true, drop, map, List, ◌∷◌, arith, sym, ap, ◌∙◌, is_some}
use Rattle.std.proofs.lemmas.Grind.{common_steps}
use Rattle.std.proofs.lemmas.List.{drop_more}
use Rattle.std.specs.List.{list_all}
use Rattle.hoa_reader.proofs.validity.Leaves.{leaves_agree}
use Rattle.hoa_reader.specs.inner.PickedOut.{HasDefined, alias_def, label_refs, line_names}
use Rattle.hoa_reader.specs.inner.Places.{is_listed, place_in}
use Rattle.hoa_parser.specs.Raw.{RawTree, raw_tree}
use Rattle.hoa_reader.specs.Validity.{aliases_among}
use Rattle.hoa_reader.proofs.elaborate.leaves.defines_aliases.Goals as goal

pub labels-preserved : goal.labels-preserved
labels-preserved c =
    let labels = c.args.labels.now in
    let i = c.labels.label-index in
    let label = c.label-item.result in
    let names = line_names (map alias_def c.args.defs.now) in
    let has : HasDefined (map alias_def c.args.defs.now) c.in-Some.names = rw c.in-Some.is at c.in_ok-names.ensures in
    let yes : c.aliases_among.result ≡ true = grind arith in
    let known : aliases_among names (raw_tree label.now) ≡ true =
    leaves_agree (λ i. true) (is_listed names) (λ name. is_some (place_in c.in-Some.names name)) (λ q. sym (has.names q)) (raw_tree label.now) ∙ sym c.aliases_among.ensures ∙ yes in
    let split : drop i labels ≡ label ∷ drop (i + 1) labels = drop_more labels i label c.labels-test.true ∙ ap (λ y. y ∷ drop (i + 1) labels) (sym c.label-item.is) in
    let F : List RawTree → Bool = list_all (aliases_among names) in
    ap (λ b. b && F (map label_refs (drop (i + 1) labels))) (sym known) ∙ sym (ap (λ ls. F (map label_refs ls)) split) ∙ c.labels.invariant

pub returns-then-not-aliases_among : goal.returns-then-not-aliases_among
returns-then-not-aliases_among c = grind (arith, common_steps)

pub returns : goal.returns
returns c = grind (arith, common_steps)
