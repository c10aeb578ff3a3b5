-- Shortest walks, as `path` answers them.
use Rattle.std.specs.Prelude.{ℕ, ◌<◌, ◌≤◌, List, length, map, All}
use Rattle.graph_walk.specs.Walk.{IsWalk, arc_at}

-- the arcs at these indices are a walk from p to q, and no walk from p to q is shorter
pub record IsShortest (arcs : List (ℕ × ℕ)) (p q : ℕ) (places : List ℕ) : Type 0 where
  pub placed : All (λ place. place < length arcs) places
  pub walks : IsWalk arcs p (map (arc_at arcs) places) q
  pub least : (walk : List (ℕ × ℕ)) → IsWalk arcs p walk q → length places ≤ length walk
