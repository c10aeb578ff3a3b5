-- The index of each state's first link, in a list of links that is in the order of the states that they leave.
use Rattle.std.specs.Prelude.{◌≡◌, ℕ, ◌+◌, ◌<◌, ◌≤◌, List, length}
use Rattle.std.specs.List.{slice_index_or}
use Rattle.aut_core.specs.declared.link.Link.{Link}

-- the links before the index `place` leave states below this one, and those from there on leave this one or later ones
pub record IsRowStart (links : List Link) (state place : ℕ) : Type 0 where
  pub within : place ≤ length links
  pub before : (k : ℕ) (d : Link) → k < place → (slice_index_or links k d).from < state
  pub behind : (k : ℕ) (d : Link) → place ≤ k → k < length links → state ≤ (slice_index_or links k d).from

-- The list has the index of each state's first link, and at the end the number of links. The links of a state end where those of the
-- next begin.
pub record IsIndex (links : List Link) (states : ℕ) (rows : List ℕ) : Type 0 where
  pub count : length rows ≡ states + 1
  pub begins : (state : ℕ) → state ≤ states → IsRowStart links state (slice_index_or rows state 0)
