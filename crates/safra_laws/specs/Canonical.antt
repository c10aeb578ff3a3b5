-- Canonical trees: trees with the same structure and states are equal as lists.
use Rattle.std.specs.Prelude.{◌≡◌, ◌<◌, ℕ, List, filter, length}
use Rattle.std.specs.List.{range_with_len}
use Rattle.safra_trees.specs.Step.{IsTree}
use Rattle.safra_trees.specs.Trees.{Node, first_tree, holds, node_at}
use Rattle.safra_trees.specs.declared.moves.Move.{Move}
use Rattle.safra_laws.specs.Rounds.{next_tree}

-- each node lists its states in rising order, and the root is its own parent
pub record IsCanonicalTree (n : ℕ) (t : List Node) : Type 0 where
  pub sets : (x : ℕ) → x < length t → (node_at t x).states ≡ filter (holds t x) (range_with_len 0 n)
  pub root : (node_at t 0).parent ≡ 0

abbrev pub FirstIsCanonical : Type 0
FirstIsCanonical = (n : ℕ) (starts : List ℕ) → IsCanonicalTree n (first_tree n starts)

abbrev pub StepsKeepCanonical : Type 0
StepsKeepCanonical = (n : ℕ) (ms : List Move) (t : List Node) → IsTree t → IsCanonicalTree n t → IsCanonicalTree n (next_tree n ms t)
