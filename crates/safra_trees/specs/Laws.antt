-- What holds of every tree, and a worked example.
use Rattle.std.specs.Prelude.{◌≡◌, ◌↔◌, List, [], ◌∷◌, Some, None, true, false}
use Rattle.safra_trees.specs.Events.{event_of}
use Rattle.safra_trees.specs.Same.{same_nodes}
use Rattle.safra_trees.specs.Step.{IsTree, grown, pruned}
use Rattle.safra_trees.specs.Trees.{Node, first_tree}
use Rattle.safra_trees.specs.View.{tree_of}
use Rattle.safra_trees.specs.declared.moves.Move.{Move}
use Rattle.safra_trees.specs.declared.tree.SafraTree.{SafraTree}

-- Parents have lower names, children hold what their parents hold, siblings share nothing, and no node is empty or covered.
abbrev pub StoredTreesAreTrees : Type 0
StoredTreesAreTrees = (tree : SafraTree) → IsTree (tree_of tree)

-- Two stored trees that are the same list of nodes are one.
abbrev pub SameListSameTree : Type 0
SameListSameTree = (one other : SafraTree) → tree_of one ≡ tree_of other → one ≡ other

-- Two stored trees compare as equal exactly where they are the same list of nodes.
abbrev pub EqualTreesAreOneList : Type 0
EqualTreesAreOneList = (one other : SafraTree) → (same_nodes (tree_of one) (tree_of other) ≡ true) ↔ (tree_of one ≡ tree_of other)

-- An automaton that waits in state 0, where each letter keeps it, and moves on to state 1, where the letter `stay` alone
-- keeps it, by accepting moves.
abbrev pub stay_moves : List Move
stay_moves = record { from = 0; to = 0; accepting = false } ∷ record { from = 0; to = 1; accepting = false } ∷ record { from = 1; to = 1; accepting = true } ∷ []

abbrev pub leave_moves : List Move
leave_moves = record { from = 0; to = 0; accepting = false } ∷ []

abbrev pub waiting : List Node
waiting = record { parent = 0; states = 0 ∷ [] } ∷ []

abbrev pub arrived : List Node
arrived = record { parent = 0; states = 0 ∷ 1 ∷ [] } ∷ []

abbrev pub nested : List Node
nested = record { parent = 0; states = 0 ∷ 1 ∷ [] } ∷ record { parent = 0; states = 1 ∷ [] } ∷ []

-- Under `stay` the first tree gains a state, then a node for what came by an accepting move; then that node's own fresh
-- child covers it, so it is green. Under `leave` it is removed, and is red.
pub record WorkedSteps : Type 0 where
  pub first : first_tree 2 (0 ∷ []) ≡ waiting
  pub second : pruned (grown 2 stay_moves waiting) ≡ arrived
  pub third : pruned (grown 2 stay_moves arrived) ≡ nested
  pub fourth : pruned (grown 2 stay_moves nested) ≡ nested
  pub last : pruned (grown 2 leave_moves nested) ≡ waiting
  pub calm : event_of 2 stay_moves arrived ≡ record { red = None; green = None }
  pub green : event_of 2 stay_moves nested ≡ record { red = None; green = Some 1 }
  pub red : event_of 2 leave_moves nested ≡ record { red = Some 1; green = None }
