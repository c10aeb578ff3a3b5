use Rattle.std.proofs.Common.{subst, sym}
use Rattle.std.proofs.lemmas.Result.{IfOk-weaker}
use Rattle.aut_base.specs.Automaton.{Automaton}
use Rattle.aut_core.specs.SymbolicAutomata.{automaton_of}
use Rattle.aut_core.specs.OtherNames.{AcceptTheSame}
use Rattle.aut_ops.proofs.flagged.Between.{graph_nodes, graph_reached}
use Rattle.aut_ops.proofs.flagged.Trimmed.{trimmed_accepts}
use Rattle.aut_ops.specs.Satisfiable.{passable_arcs}
use Rattle.graph_walk.specs.Reach.{AreReachFlags}
use Rattle.aut_ops.proofs.trimming.trim.Goals as goal

pub reach-requires-clause-nodes : goal.reach-requires-clause-nodes
reach-requires-clause-nodes c = graph_nodes (automaton_of c.args.a.now) c.well_formedness.ensures.well_formed _ _ c.in_ok-graph.ensures.nodes c.in_ok-graph.ensures.arcs

pub returns-clause-accepts : goal.returns-clause-accepts
returns-clause-accepts c =
    let a = automaton_of c.args.a.now in
    let reached = graph_reached a c.well_formedness.ensures.well_formed _ _ _ _ c.in_ok-graph.ensures.nodes c.in_ok-graph.ensures.arcs c.starts.ensures c.in_ok-reached.ensures in
    let flagged = subst (AreReachFlags a.states (passable_arcs a) a.starts) (sym c.as_slice.ensures) reached in
    IfOk-weaker c.flagged_alone.result _ _ (λ made e. subst (λ (x : Automaton). AcceptTheSame x a) (sym e) (trimmed_accepts a c.well_formedness.ensures.well_formed c.as_slice.result.now flagged))
    c.flagged_alone.ensures
