use Rattle.std.proofs.Common.{◌≡◌, ◌∙◌, ap, subst, sym}
use Rattle.std.proofs.lemmas.Result.{IfOk-weaker}
use Rattle.std.specs.Option.{option_map}
use Rattle.aut_base.specs.CanonicalLabel.{canonical_label}
use Rattle.aut_base.specs.Label.{AllBelow, truth}
use Rattle.hoa_parser.specs.Raw.{written_edge, written_state}
use Rattle.hoa_reader.proofs.labels.LetterTruth.{letter_truth}
use Rattle.hoa_reader.proofs.labels.WrittenGuards.{canonical_guard}
use Rattle.hoa_reader.proofs.labels.WrittenLabels.{has_none, has_written}
use Rattle.hoa_reader.specs.inner.PickedOut.{label_refs}
use Rattle.hoa_reader.specs.inner.TreeEdges.{label_for, replaced}
use Rattle.label_guards.specs.Numbers.{is_at}
use Rattle.hoa_reader.proofs.elaborate.links.guard_of.Goals as goal

pub guard_written-requires-clause-below : goal.guard_written-requires-clause-below
guard_written-requires-clause-below c =
    let x = c.args.shared.now in
    let due : replaced x (label_refs c.in-Some.label) ≡ label_for x (written_state c.args.state.now) c.args.letter (written_edge c.args.edge.now) =
    has_written x (written_state c.args.state.now) c.args.letter (written_edge c.args.edge.now) (label_refs c.in-Some.label)
    (sym c.label_written.ensures ∙ ap (option_map label_refs) c.in-Some.is) in
    subst (AllBelow c.args.guards.now.names) (sym due) c.requires.below

pub returns-in-Some-clause-has : goal.returns-in-Some-clause-has
returns-in-Some-clause-has c = IfOk-weaker c.guard_written.result _ _ (λ g is. is.has) c.guard_written.ensures.guard

pub returns-in-Some-clause-label : goal.returns-in-Some-clause-label
returns-in-Some-clause-label c =
    let x = c.args.shared.now in
    let due : replaced x (label_refs c.in-Some.label) ≡ label_for x (written_state c.args.state.now) c.args.letter (written_edge c.args.edge.now) =
    has_written x (written_state c.args.state.now) c.args.letter (written_edge c.args.edge.now) (label_refs c.in-Some.label)
    (sym c.label_written.ensures ∙ ap (option_map label_refs) c.in-Some.is) in
    IfOk-weaker c.guard_written.result _ _
    (λ g is. canonical_guard _ (replaced x (label_refs c.in-Some.label)) g is ∙ (λ i. canonical_label (c.guard_written.ensures.keeps.names i) (due i))) c.guard_written.ensures.guard

pub returns-in-None-clause-has : goal.returns-in-None-clause-has
returns-in-None-clause-has c = IfOk-weaker c.of_letter.result _ _ (λ g is. is.has) c.of_letter.ensures.guard

pub returns-in-None-clause-label : goal.returns-in-None-clause-label
returns-in-None-clause-label c =
    let x = c.args.shared.now in
    let s = written_state c.args.state.now in
    let e = written_edge c.args.edge.now in
    let due = has_none x s c.args.letter e (sym c.label_written.ensures ∙ ap (option_map label_refs) c.in-None.is) in
    IfOk-weaker c.of_letter.result _ _
    (λ g is. is (label_for x s c.args.letter e)
    (λ on. ap (truth on) (sym due) ∙ (letter_truth c.args.letter x.names on ∙ ap (λ n. is_at c.args.letter n on) (sym c.requires.names)))) c.of_letter.ensures.label
