-- That a number of a list differs from the earlier ones, which a loop tests for one index after another.
use Rattle.std.specs.Prelude.{◌≢◌, ℕ, ◌<◌, List, slice_index}

-- the number at this index differs from those before it
abbrev pub DiffersFromEarlier : List ℕ → ℕ → Type 0
DiffersFromEarlier xs i = (j : ℕ) → j < i → slice_index xs j ≢ slice_index xs i
