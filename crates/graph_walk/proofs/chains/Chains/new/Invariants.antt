use Rattle.graph_walk.specs.inner.Chains.{AreChained}
use Rattle.graph_walk.proofs.chains.Chains.new.Given as goal

abbrev pub invariant-arcs : goal.invariant-arcs
invariant-arcs l = AreChained l.fn.graph.nodes l.arcs l.place l.last.items l.before.items
