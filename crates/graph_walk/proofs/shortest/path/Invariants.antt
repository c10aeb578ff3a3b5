use Rattle.std.proofs.Common.{◌-◌, length}
use Rattle.graph_walk.specs.inner.Back.{LeadsBack}
use Rattle.graph_walk.proofs.shortest.path.Given as goal

abbrev pub invariant-back : goal.invariant-back
invariant-back l = LeadsBack l.fn.graph.nodes l.fn.graph.arcs l.fn.from l.fn.to l.search l.places.items l.at

abbrev pub decreases-back : goal.decreases-back
decreases-back l = length l.search.order.items - length l.places.items
