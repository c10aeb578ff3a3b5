use Rattle.std.proofs.Common.{subst, sym}
use Rattle.aut_core.specs.SymbolicAutomata.{automaton_of}
use Rattle.aut_ops.proofs.flagged.Alone.{reached_size}
use Rattle.aut_ops.proofs.flagged.Between.{graph_nodes, graph_reached}
use Rattle.aut_ops.specs.Satisfiable.{passable_arcs}
use Rattle.graph_walk.specs.Reach.{AreReachFlags}
use Rattle.aut_ops.proofs.reached.reached_size.Goals as goal

pub reach-requires-clause-nodes : goal.reach-requires-clause-nodes
reach-requires-clause-nodes c = graph_nodes (automaton_of c.args.a.now) c.well_formedness.ensures.well_formed _ _ c.in_ok-graph.ensures.nodes c.in_ok-graph.ensures.arcs

pub returns : goal.returns
returns c =
    let a = automaton_of c.args.a.now in
    let reached = graph_reached a c.well_formedness.ensures.well_formed _ _ _ _ c.in_ok-graph.ensures.nodes c.in_ok-graph.ensures.arcs c.starts.ensures c.in_ok-reached.ensures in
    let flagged = subst (AreReachFlags a.states (passable_arcs a) a.starts) (sym c.as_slice-flags.ensures) reached in
    reached_size c.args.a.now c.as_slice-flags.result.now _ flagged c.flagged_count.ensures c.staying_count.ensures
