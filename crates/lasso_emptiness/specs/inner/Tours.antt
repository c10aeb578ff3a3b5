-- Closed paths through given edges, and paths from starts.
use Rattle.std.specs.Prelude.{◌≡◌, ◌++◌, ℕ, ◌<◌, List, All, Contains, length}
use Rattle.std.specs.List.{slice_index_or}
use Rattle.lasso_emptiness.specs.declared.live.EdgeRef.{EdgeRef}
use Rattle.lasso_emptiness.specs.inner.Trails.{IsTrail}

-- the edge at an index
abbrev pub listed_edge : List EdgeRef → ℕ → EdgeRef
listed_edge edges place = slice_index_or edges place (record { from = 0; to = 0; link = 0 })

-- a path was appended to the list
pub record ExtendsPath (Kind : EdgeRef → Type 0) (p q : ℕ) (old new : List EdgeRef) : Type 0 where
  pub path_edges : List EdgeRef
  pub added : new ≡ old ++ path_edges
  pub leads : IsTrail Kind p path_edges q

-- a closed path along the edges that has all needed ones
pub record IsTour (edges needed cycle : List EdgeRef) : Type 0 where
  pub some : 0 < length cycle
  pub state : ℕ
  pub closed : IsTrail (Contains edges) state cycle state
  pub passes : All (Contains cycle) needed

-- a path from a start to the state
pub record IsStem (starts : List ℕ) (edges : List EdgeRef) (state : ℕ) (stem : List EdgeRef) : Type 0 where
  pub start : ℕ
  pub is_start : Contains starts start
  pub leads : IsTrail (Contains edges) start stem state
