-- What holds of every tree that steps lead to, and what a step depends on.
use Rattle.std.specs.Prelude.{◌≡◌, ◌↔◌, ◌<◌, ◌≤◌, ℕ, true, List, Contains, length}
use Rattle.safra_trees.specs.Step.{IsTree}
use Rattle.safra_trees.specs.Trees.{Node, first_tree, holds}
use Rattle.safra_trees.specs.declared.moves.Move.{Move}
use Rattle.safra_laws.specs.Priorities.{priority}
use Rattle.safra_laws.specs.Rounds.{GoalsBelow, IsReachedByWord, next_tree, tree_after}

abbrev pub FirstIsTree : Type 0
FirstIsTree = (n : ℕ) (starts : List ℕ) → IsTree (first_tree n starts)

abbrev pub StepsKeepTrees : Type 0
StepsKeepTrees = (n : ℕ) (ms : List Move) (t : List Node) → IsTree t → IsTree (next_tree n ms t)

-- The root's states are those of the subset construction: where runs over the word may be.
abbrev pub RootIsReached : Type 0
RootIsReached = (n : ℕ) (starts : List ℕ) (w : List (List Move)) (q : ℕ) → ((s : ℕ) → Contains starts s → s < n) → GoalsBelow n w
    → (holds (tree_after n (first_tree n starts) w) 0 q ≡ true) ↔ IsReachedByWord starts w q

-- The trees that a word leads to have no more names than there are states.
abbrev pub TreesAreFew : Type 0
TreesAreFew = (n : ℕ) (starts : List ℕ) (w : List (List Move)) → length (tree_after n (first_tree n starts) w) ≤ n

-- both letters have the same moves from the states of the root, in any order and multiplicity
abbrev pub SameRootMoves : List Move → List Move → List Node → Type 0
SameRootMoves ms ns t = (m : Move) → holds t 0 m.from ≡ true → Contains ms m ↔ Contains ns m

-- A step and its priority depend on these moves alone.
abbrev pub RootMovesAreEnough : Type 0
RootMovesAreEnough = (n most : ℕ) (ms ns : List Move) (t : List Node) → IsTree t → SameRootMoves ms ns t
    → (next_tree n ms t ≡ next_tree n ns t) × (priority n most ms t ≡ priority n most ns t)
