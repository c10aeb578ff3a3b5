use Rattle.graph_walk.specs.Walk.{HasNodes}
use Rattle.base_rows.proofs.graphs.arcs.graph.Given as goal

abbrev pub invariant-arcs : goal.invariant-arcs
invariant-arcs l = HasNodes l.nodes l.arcs
