-- Walks along the arcs of a graph, and reachability. An arc is its tail and its head.
use Rattle.std.specs.Prelude.{◌≡◌, ℕ, ◌<◌, List, [], ◌∷◌, All}
use Rattle.std.specs.List.{Contains, slice_index_or}

-- the list of arcs leads from p to q, each arc beginning where the one before ends
abbrev pub IsWalk : List (ℕ × ℕ) → ℕ → List (ℕ × ℕ) → ℕ → Type 0
IsWalk arcs p [] q = p ≡ q
IsWalk arcs p (a ∷ rest) q = Contains arcs a × (a.0 ≡ p) × IsWalk arcs a.1 rest q

-- some walk leads from p to q
pub record Reaches (arcs : List (ℕ × ℕ)) (p q : ℕ) : Type 0 where
  pub walk : List (ℕ × ℕ)
  pub leads : IsWalk arcs p walk q

-- both ends of every arc are nodes
abbrev pub HasNodes : ℕ → List (ℕ × ℕ) → Type 0
HasNodes nodes arcs = All (λ a. (a.0 < nodes) × (a.1 < nodes)) arcs

-- the arc at an index
abbrev pub arc_at : List (ℕ × ℕ) → ℕ → ℕ × ℕ
arc_at arcs place = slice_index_or arcs place (0, 0)
