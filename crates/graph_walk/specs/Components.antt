-- Strongly connected components, as `components` numbers them.
use Rattle.std.specs.Prelude.{◌≡◌, ℕ, ◌<◌, ◌↔◌, List, length, slice_index}
use Rattle.graph_walk.specs.Walk.{Reaches}

-- One number for each node. Two nodes have the same number exactly where each reaches the other, and the
-- numbers run from 0 without gaps.
pub record AreComponents (nodes : ℕ) (arcs : List (ℕ × ℕ)) (numbers : List ℕ) : Type 0 where
  pub size : length numbers ≡ nodes
  pub same : (p q : ℕ) → p < nodes → q < nodes → (slice_index numbers p ≡ slice_index numbers q) ↔ (Reaches arcs p q × Reaches arcs q p)
  pub count : ℕ
  pub below : (p : ℕ) → p < nodes → slice_index numbers p < count
  pub none_left_out : (number : ℕ) → number < count → (p : ℕ) × (p < nodes) × (slice_index numbers p ≡ number)
