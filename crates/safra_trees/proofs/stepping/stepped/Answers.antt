use Rattle.std.proofs.Common.{◌∙◌, ◌<◌, All, List, subst, sym, ℕ}
use Rattle.safra_trees.proofs.flat_step.Placed.{stored_root}
use Rattle.safra_trees.proofs.flat_step.Splits.{none_narrow}
use Rattle.safra_trees.specs.Flat.{IsStored}
use Rattle.safra_trees.proofs.stepping.stepped.Goals as goal

pub step_lists-requires-clause-states : goal.step_lists-requires-clause-states
step_lists-requires-clause-states c =
    let tree = c.args.tree.now in
    subst (λ (xs : List ℕ). All (λ s. s < c.args.states) xs) (stored_root tree.parents tree.states tree.places tree.stored ∙ sym c.as_slice-2.ensures) c.requires.states

pub invariant_of-result : goal.invariant_of-result
invariant_of-result c =
    let new = c.in-Ok.new in
    record { stored = subst (λ (xs : List ℕ). IsStored new.parents xs new.places) (none_narrow new.low new.rest c.in-Ok.ensures.split) new.stored }
