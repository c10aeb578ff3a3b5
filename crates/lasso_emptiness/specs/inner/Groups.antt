-- Edges in groups, one for each strongly connected component.
use Rattle.std.specs.Prelude.{ℕ, ◌<◌, ◌&&◌, Bool, List, length, map, nat_eq, slice_index, Contains}
use Rattle.graph_walk.specs.Walk.{Reaches}
use Rattle.lasso_emptiness.specs.declared.live.EdgeRef.{EdgeRef}
use Rattle.lasso_emptiness.specs.inner.Edges.{arc_of}
use Rattle.lasso_emptiness.specs.inner.Trails.{IsTrail}

-- both states of the edge have the number
abbrev pub is_inside : List ℕ → ℕ → EdgeRef → Bool
is_inside numbers k e = nat_eq (slice_index numbers e.from) k && nat_eq (slice_index numbers e.to) k

-- along the edges, the state to which each edge leads reaches the state that each edge leaves
abbrev pub IsStronglyConnected : List EdgeRef → Type 0
IsStronglyConnected edges = (d e : EdgeRef) → Contains edges d → Contains edges e → Reaches (map arc_of edges) d.to e.from

pub record IsGroup (edges group : List EdgeRef) : Type 0 where
  pub inside : (e : EdgeRef) → Contains group e → Contains edges e
  pub joined : IsStronglyConnected group

-- each group is of these edges and strongly connected, and each closed path along the edges is within one of the groups
pub record AreGroups (edges : List EdgeRef) (groups : List (List EdgeRef)) : Type 0 where
  pub each : (group : List EdgeRef) → Contains groups group → IsGroup edges group
  pub whole : (state : ℕ) (cycle : List EdgeRef) → 0 < length cycle → IsTrail (Contains edges) state cycle state
      → (group : List EdgeRef) × Contains groups group × IsTrail (Contains group) state cycle state
