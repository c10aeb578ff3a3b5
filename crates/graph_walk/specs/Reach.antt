-- Reachability from a list of nodes, as `reach` answers it.
use Rattle.std.specs.Prelude.{◌≡◌, ℕ, ◌<◌, ◌↔◌, Bool, false, IsTrue, List, length}
use Rattle.std.specs.List.{Contains, slice_index_or}
use Rattle.graph_walk.specs.Walk.{Reaches}

-- some node of the list reaches q
pub record ReachedFrom (arcs : List (ℕ × ℕ)) (starts : List ℕ) (q : ℕ) : Type 0 where
  pub start : ℕ
  pub listed : Contains starts start
  pub reached : Reaches arcs start q

-- one flag for each node, which is set exactly where some node of the list reaches it
pub record AreReachFlags (nodes : ℕ) (arcs : List (ℕ × ℕ)) (starts : List ℕ) (flags : List Bool) : Type 0 where
  pub size : length flags ≡ nodes
  pub exact : (q : ℕ) → q < nodes → IsTrue (slice_index_or flags q false) ↔ ReachedFrom arcs starts q
