-- A worked example. The automaton accepts the words over a and b in which b comes only finitely often: state 0 waits, under
-- a and b alike, state 1 is entered under a, and stays under a by an accepting move.
use Rattle.std.specs.Prelude.{◌≡◌, false, true, List, [], ◌∷◌}
use Rattle.safra_trees.specs.Step.{IsTree, grown, greens, reds}
use Rattle.safra_trees.specs.Trees.{Node, first_tree, holds}
use Rattle.safra_trees.specs.declared.moves.Move.{Move}
use Rattle.safra_laws.specs.Canonical.{IsCanonicalTree}
use Rattle.safra_laws.specs.Priorities.{IsOdd, least_priority, priorities}
use Rattle.safra_laws.specs.Rounds.{GoalsBelow, HasGreenName, IsAccepted, IsMovePath, NamesAtMost, next_tree, tree_after}

abbrev pub waits : Move
waits = record { from = 0; to = 0; accepting = false }

abbrev pub enters : Move
enters = record { from = 0; to = 1; accepting = false }

abbrev pub stays_in : Move
stays_in = record { from = 1; to = 1; accepting = true }

abbrev pub letter_a : List Move
letter_a = waits ∷ enters ∷ stays_in ∷ []

abbrev pub letter_b : List Move
letter_b = waits ∷ []

-- the tree of the start, the one after `a`, and the one after `a a`, whose node 1 holds the states that an accepting move
-- has led to
abbrev pub tree_of_start : List Node
tree_of_start = record { parent = 0; states = 0 ∷ [] } ∷ []

abbrev pub tree_of_both : List Node
tree_of_both = record { parent = 0; states = 0 ∷ 1 ∷ [] } ∷ []

abbrev pub tree_with_child : List Node
tree_with_child = record { parent = 0; states = 0 ∷ 1 ∷ [] } ∷ record { parent = 0; states = 1 ∷ [] } ∷ []

-- The trees: a further `a` comes back to the last of them and node 1 is green; `b` leads to the first, and node 1 is red.
pub record WorkedTrees : Type 0 where
  pub first : first_tree 2 (0 ∷ []) ≡ tree_of_start
  pub second : next_tree 2 letter_a tree_of_start ≡ tree_of_both
  pub third : next_tree 2 letter_a tree_of_both ≡ tree_with_child
  pub again : next_tree 2 letter_a tree_with_child ≡ tree_with_child
  pub green : greens (grown 2 letter_a tree_with_child) ≡ 1 ∷ []
  pub none_red : reds (grown 2 letter_a tree_with_child) 2 ≡ []
  pub back : next_tree 2 letter_b tree_with_child ≡ tree_of_start
  pub none_green : greens (grown 2 letter_b tree_with_child) ≡ []
  pub red : reds (grown 2 letter_b tree_with_child) 2 ≡ 1 ∷ []

-- The priorities, for trees of at most two names: that of `a` again and again is odd, the least of `b a a` is even.
pub record WorkedPriorities : Type 0 where
  pub round_of_a : priorities 2 2 tree_with_child (letter_a ∷ []) ≡ 3 ∷ []
  pub round_with_b : priorities 2 2 tree_with_child (letter_b ∷ letter_a ∷ letter_a ∷ []) ≡ 2 ∷ 4 ∷ 4 ∷ []

-- The premises of the laws hold of the round `a`, of the run that stays in state 1, and of the trees; and so do their
-- conclusions.
pub record WorkedRound : Type 0 where
  pub is_tree : IsTree tree_with_child
  pub canonical : IsCanonicalTree 2 tree_with_child
  pub rooted : holds tree_with_child 0 1 ≡ true
  pub goals : GoalsBelow 2 (letter_a ∷ [])
  pub path : IsMovePath 1 (letter_a ∷ []) (stays_in ∷ []) 1
  pub reached : tree_after 2 (first_tree 2 (0 ∷ [])) (letter_a ∷ letter_a ∷ []) ≡ tree_with_child
  pub returns : tree_after 2 tree_with_child (letter_a ∷ []) ≡ tree_with_child
  pub few : NamesAtMost 2 2 tree_with_child (letter_a ∷ [])
  pub green_name : HasGreenName 2 tree_with_child (letter_a ∷ [])
  pub odd : IsOdd (least_priority 2 2 tree_with_child (letter_a ∷ []))
  pub accepted : IsAccepted (0 ∷ []) (letter_a ∷ letter_a ∷ []) (letter_a ∷ [])
