use Rattle.std.proofs.Common.{◌≡◌, map, take}
use Rattle.lasso_emptiness.specs.inner.Edges.{arc_in_direction}
use Rattle.lasso_emptiness.proofs.live.graph_turned.Given as goal

abbrev pub invariant-edges : goal.invariant-edges
invariant-edges l = l.arcs ≡ map (arc_in_direction l.turned) (take l.edge-index l.edges)
