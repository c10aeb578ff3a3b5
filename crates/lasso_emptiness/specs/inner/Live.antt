-- The edges of an automaton whose labels are satisfiable, and those of them that are reached.
use Rattle.std.specs.Prelude.{◌≡◌, ℕ, List, [], Some, Contains, map, slice_get}
use Rattle.aut_core.specs.SymbolicAutomata.{SymbolicAutomaton}
use Rattle.aut_core.specs.declared.link.Link.{Link}
use Rattle.graph_walk.specs.Reach.{ReachedFrom}
use Rattle.label_guards.specs.Guards.{IsNeverMet}
use Rattle.lasso_emptiness.specs.declared.live.EdgeRef.{EdgeRef}
use Rattle.lasso_emptiness.specs.inner.Edges.{arc_of}
use Rattle.lasso_emptiness.specs.inner.Picked.{Picks}

-- the edge is that of a link of the automaton
pub record IsEdgeAt (c : SymbolicAutomaton) (e : EdgeRef) (l : Link) : Type 0 where
  pub stands : slice_get c.links e.link ≡ Some l
  pub from : e.from ≡ l.from
  pub to : e.to ≡ l.to

-- the edge is that of a link whose label is satisfiable
pub record IsPassable (c : SymbolicAutomaton) (e : EdgeRef) : Type 0 where
  pub link : Link
  pub at : IsEdgeAt c e link
  pub some : IsNeverMet c.store link.guard → ⊥

-- these are exactly such edges
pub record ArePassable (c : SymbolicAutomaton) (edges : List EdgeRef) : Type 0 where
  pub each : (e : EdgeRef) → Contains edges e → IsPassable c e
  pub whole : (e : EdgeRef) → IsPassable c e → Contains edges e

-- those of the edges that leave a state that is reached along them from one of these states
abbrev pub AreReachedEdges : List ℕ → List EdgeRef → List EdgeRef → Type 0
AreReachedEdges starts edges reached = Picks (λ e. ReachedFrom (map arc_of edges) starts e.from) edges [] reached

-- the edge's label is satisfiable, and it leaves a state that is reached along these edges from a start
pub record IsReachedEdge (c : SymbolicAutomaton) (edges : List EdgeRef) (e : EdgeRef) : Type 0 where
  pub passable : IsPassable c e
  pub reached : ReachedFrom (map arc_of edges) c.starts e.from
