-- States renumbered by their index in a list, the sight: all states that a tree and moves mention, in rising order.
use Rattle.std.specs.Prelude.{◌++◌, ℕ, List, [], ◌∷◌, Contains, flat_map, map}
use Rattle.std.specs.List.Sorted.{IsStrictlyIncreasing}
use Rattle.safra_trees.specs.Trees.{Node}
use Rattle.safra_trees.specs.declared.moves.Move.{Move}

-- the two ends of a move
abbrev pub ends : Move → List ℕ
ends move = move.from ∷ move.to ∷ []

-- the states and the ends of the moves in rising order, each once
pub record IsSight (states : List ℕ) (ms : List Move) (sight : List ℕ) : Type 0 where
  pub rises : IsStrictlyIncreasing sight
  pub keeps : (q : ℕ) → Contains (states ++ flat_map ends ms) q → Contains sight q
  pub adds_none : (q : ℕ) → Contains sight q → Contains (states ++ flat_map ends ms) q

-- both ends are in sight
pub record IsSeen (sight : List ℕ) (move : Move) : Type 0 where
  pub from : Contains sight move.from
  pub to : Contains sight move.to

-- the move and the node with f of each state in its stead
abbrev pub move_by : (ℕ → ℕ) → Move → Move
move_by f move = record { from = f move.from; to = f move.to; accepting = move.accepting }

abbrev pub node_by : (ℕ → ℕ) → Node → Node
node_by f node = record { parent = node.parent; states = map f node.states }
