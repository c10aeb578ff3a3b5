-- The worked example, computed, and the conclusions of the laws on it.
use Rattle.std.proofs.Common.{◌<◌, [], ◌∷◌, Contains, arith, inl, inr, refl, subst}
use Rattle.aut_base.proofs.lists.Members.{first_there, later_there, none_there, there_cases}
use Rattle.safra_trees.specs.Step.{IsTree}
use Rattle.safra_trees.specs.declared.moves.Move.{Move}
use Rattle.safra_laws.proofs.TreesAfter.{after_is_tree}
use Rattle.safra_laws.proofs.invariant.Canonical.{first_is_canonical, steps_keep_canonical}
use Rattle.safra_laws.proofs.invariant.FirstTree.{first_is_tree}
use Rattle.safra_laws.proofs.parity.Both.{odd_is_accepted}
use Rattle.safra_laws.specs.Example.{WorkedPriorities, WorkedRound, WorkedTrees, enters, letter_a, stays_in, tree_of_both, tree_of_start, tree_with_child, waits}

pub worked_trees : WorkedTrees
worked_trees = record { first = refl; second = refl; third = refl; again = refl; green = refl; none_red = refl; back = refl; none_green = refl; red = refl }

pub worked_priorities : WorkedPriorities
worked_priorities = record { round_of_a = refl; round_with_b = refl }

is_tree : IsTree tree_with_child
is_tree = after_is_tree 2 tree_of_start (letter_a ∷ letter_a ∷ []) (first_is_tree 2 (0 ∷ []))

goal_below : (m : Move) → Contains letter_a m → m.to < 2
goal_below m there = elim (there_cases waits (enters ∷ stays_in ∷ []) m there) [
  | inl first ↦ subst (λ (e : Move). e.to < 2) first (omega arith)
  | inr rest ↦ (elim (there_cases enters (stays_in ∷ []) m rest) [
    | inl second ↦ subst (λ (e : Move). e.to < 2) second (omega arith)
    | inr last ↦ (elim (there_cases stays_in [] m last) [
      | inl third ↦ subst (λ (e : Move). e.to < 2) third (omega arith)
      | inr none ↦ absurd (none_there m none)
    ])
  ])
]

stays_there : Contains letter_a stays_in
stays_there = later_there waits (enters ∷ stays_in ∷ []) stays_in (later_there enters (stays_in ∷ []) stays_in (first_there stays_in []))

pub worked_round : WorkedRound
worked_round = record {
  is_tree = is_tree;
  canonical = steps_keep_canonical 2 letter_a tree_of_both (after_is_tree 2 tree_of_start (letter_a ∷ []) (first_is_tree 2 (0 ∷ [])))
      (steps_keep_canonical 2 letter_a tree_of_start (first_is_tree 2 (0 ∷ [])) (first_is_canonical 2 (0 ∷ [])));
  rooted = refl;
  goals = (goal_below, tt);
  path = (refl, stays_there, refl);
  reached = refl;
  returns = refl;
  few = (omega arith, tt);
  green_name = record { name = 1; before = []; letter = letter_a; behind = []; parts = refl; green = first_there 1 []; never_red = ((λ f upto red. none_there f red), tt) };
  odd = record { half = 1; is = refl };
  accepted = odd_is_accepted 2 2 (0 ∷ []) (letter_a ∷ letter_a ∷ []) (letter_a ∷ []) refl (record { half = 1; is = refl });
}
