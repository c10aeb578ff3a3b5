-- Trees after letters: they have the invariant, and hold states below n only.
use Rattle.std.proofs.Common.{◌≡◌, ◌∙◌, ℕ, ◌<◌, true, List, [], ◌∷◌, ◌++◌, ap, arith, inl, inr, length, refl, subst, sym}
use Rattle.std.proofs.lemmas.Bool.{cases_lt, true≢false}
use Rattle.std.proofs.lemmas.List.{get_or_past}
use Rattle.safra_trees.proofs.list_step.Pruned.{grown_forest, pruned_length, pruned_parts, pruned_tree}
use Rattle.safra_trees.proofs.list_step.Ranks.{rank_back}
use Rattle.safra_trees.specs.Step.{IsTree, grown, pruned, survives}
use Rattle.safra_trees.specs.Trees.{Node, holds}
use Rattle.safra_trees.specs.inner.Names.{has}
use Rattle.safra_trees.specs.declared.moves.Move.{Move}
use Rattle.safra_laws.specs.Rounds.{next_tree, tree_after}
use Rattle.safra_laws.specs.Trees.{StepsKeepTrees}

pub steps_keep_trees : StepsKeepTrees
steps_keep_trees n ms t tree = pruned_tree (grown n ms t) (grown_forest n ms t tree)

pub after_is_tree : (n : ℕ) (t : List Node) (w : List (List Move)) → IsTree t → IsTree (tree_after n t w)
after_is_tree n t [] tree = tree
after_is_tree n t (ms ∷ w) tree = after_is_tree n (next_tree n ms t) w (steps_keep_trees n ms t tree)

pub after_join : (n : ℕ) (t : List Node) (u v : List (List Move)) → tree_after n t (u ++ v) ≡ tree_after n (tree_after n t u) v
after_join n t [] v = refl
after_join n t (ms ∷ u) v = after_join n (next_tree n ms t) u v

-- a name that holds a state is a name of the tree
pub holds_within : (t : List Node) (x s : ℕ) → holds t x s ≡ true → x < length t
holds_within t x s h = elim (cases_lt x (length t)) [
  | inl within ↦ within
  | inr past ↦ absurd (true≢false (sym h ∙ ap (λ (d : Node). has d.states s) (get_or_past t x (record { parent = 0; states = [] }) past)))
]

-- what a name holds after a step is below n
pub held_below : (n : ℕ) (ms : List Move) (t : List Node) (x q : ℕ) → x < length (next_tree n ms t) → holds (next_tree n ms t) x q ≡ true → q < n
held_below n ms t x q within here =
    let f = grown n ms t in
    let at = rank_back (survives f) f.size x (omega (arith, within, pruned_length f)) in
    (pruned_parts f at.name q at.below at.stays (subst (λ y. holds (pruned f) y q ≡ true) (sym at.is) here)).1
