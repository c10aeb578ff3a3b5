use Rattle.std.proofs.Common.{◌≡◌, ◌<◌, ℕ, List, length, get_or, subst}
use Rattle.label_guards.proofs.valuations.LetterSteps.{midway_step}
use Rattle.label_guards.proofs.pick.letter_at.Goals as goal

pub names-preserved : goal.names-preserved
names-preserved c =
    let items = c.as_slice-name-items.ensures.items in
    let name = c.name-item.result in
    midway_step c.args.names.now c.args.number c.names.name-index c.names.rest c.names.letter _ name c.names.invariant
    (subst (λ (l : List (List ℕ)). c.names.name-index < length l) items c.names-test.true)
    (subst (λ (l : List (List ℕ)). name ≡ get_or l c.names.name-index name) items c.name-item.is)
    c.in_ok-add_if.ensures
