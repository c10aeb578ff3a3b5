use Rattle.std.proofs.Common.{◌∙◌, ◌++◌, ◌<◌, All, List, ap, subst, sym, ℕ}
use Rattle.safra_trees.proofs.laws.PackedTrees.{packed_root}
use Rattle.safra_trees.proofs.stepping.step_packed.Goals as goal

pub step_lists-requires-clause-states : goal.step_lists-requires-clause-states
step_lists-requires-clause-states c =
    let tree = c.args.tree.now in
    subst (λ (xs : List ℕ). All (λ s. s < c.args.states) xs) (packed_root tree
    ∙ (ap (λ xs. xs ++ tree.lists.rest) (sym c.as_slice-2.ensures) ∙ ap (λ xs. c.as_slice-2.result.now ++ xs) (sym c.as_slice-3.ensures))) c.requires.states
