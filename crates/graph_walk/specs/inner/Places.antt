-- Items of lists by index, and flags of nodes.
use Rattle.std.specs.Prelude.{◌≡◌, ℕ, ◌<◌, Bool, false, List, length, slice_index}
use Rattle.std.specs.List.{slice_index_or}

-- x is the item at the index i
abbrev pub At : List ℕ → ℕ → ℕ → Type 0
At xs i x = (i < length xs) × (slice_index xs i ≡ x)

-- the flag of a node, false past the end of the list
abbrev pub flag : List Bool → ℕ → Bool
flag flags x = slice_index_or flags x false
