use Rattle.graph_walk.specs.inner.Search.{Spreading}
use Rattle.graph_walk.proofs.search.Search.spread.Given as goal

abbrev pub invariant-arcs : goal.invariant-arcs
invariant-arcs l = Spreading l.fn.graph.nodes l.fn.graph.arcs l.fn.starts l.fn.done l.end l.node l.self

abbrev pub decreases-arcs : goal.decreases-arcs
decreases-arcs l = l.end
