-- Safra trees as lists: a node for each name, from 0 on.
use Rattle.std.specs.Prelude.{ℕ, Bool, List, [], ◌∷◌, cond, filter, slice_index_or}
use Rattle.std.specs.List.{list_any, range_with_len}
use Rattle.aut_base.specs.Marks.{is_in}

-- the name of the parent, and the states in the order of their numbers; the root has the name 0 and is its own parent
pub record Node : Type 0 where
  pub parent : ℕ
  pub states : List ℕ

-- the node of this name; past the end one with no states
abbrev pub node_at : List Node → ℕ → Node
node_at t x = slice_index_or t x (record { parent = 0; states = [] })

-- the node of this name holds the state
abbrev pub holds : List Node → ℕ → ℕ → Bool
holds t x s = is_in s (node_at t x).states

-- the states of the root, which are all states of the tree
abbrev pub root_states : List Node → List ℕ
root_states t = (node_at t 0).states

-- the tree before a word: one node with the starts among the n states of an automaton, or none where there are none
abbrev pub first_tree : ℕ → List ℕ → List Node
first_tree n starts =
    cond (list_any (λ s. is_in s starts) (range_with_len 0 n)) (record { parent = 0; states = filter (λ s. is_in s starts) (range_with_len 0 n) } ∷ []) []
