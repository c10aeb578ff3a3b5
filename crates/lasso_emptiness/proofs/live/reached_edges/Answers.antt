use Rattle.std.proofs.Common.{◌≡◌, ◌∙◌, ◌<◌, [], ap, false, get_or, length, sym, subst, true}
use Rattle.std.proofs.lemmas.List.Elements.{All-weaker}
use Rattle.std.proofs.lemmas.Result.{IfOk-weaker}
use Rattle.lasso_emptiness.specs.declared.live.EdgeRef.{EdgeRef}
use Rattle.lasso_emptiness.specs.inner.Live.{AreReachedEdges}
use Rattle.lasso_emptiness.specs.inner.Picked.{Picks}
use Rattle.lasso_emptiness.proofs.components.Picking.{flagged_are_reached}
use Rattle.lasso_emptiness.proofs.trails.Trails.{has_nodes}
use Rattle.lasso_emptiness.proofs.live.reached_edges.Goals as goal

pub reach-requires-clause-nodes : goal.reach-requires-clause-nodes
reach-requires-clause-nodes c = has_nodes _ c.args.a.now.states _ c.args.edges.now (c.in_ok-graph.ensures.nodes ∙ c.states.ensures) c.in_ok-graph.ensures.arcs c.requires

pub flagged_edges-requires : goal.flagged_edges-requires
flagged_edges-requires c =
    let size = ap length c.as_slice.ensures ∙ c.in_ok-flags.ensures.size ∙ c.in_ok-graph.ensures.nodes ∙ c.states.ensures in
    All-weaker (λ (e : EdgeRef). (e.from < c.args.a.now.states) × (e.to < c.args.a.now.states)) (λ (e : EdgeRef). e.from < length c.as_slice.result.now)
    (λ e ends. subst (λ n. e.from < n) (sym size) ends.0) c.args.edges.now c.requires

pub returns : goal.returns
returns c =
    IfOk-weaker c.flagged_edges.result (Picks (λ (e : EdgeRef). get_or c.as_slice.result.now e.from false ≡ true) c.args.edges.now []) (AreReachedEdges c.args.a.now.starts c.args.edges.now)
    (flagged_are_reached _ c.args.a.now.states _ c.args.a.now.starts _ _ c.as_slice.result.now c.args.edges.now c.in_ok-flags.ensures c.as_slice.ensures
    (c.in_ok-graph.ensures.nodes ∙ c.states.ensures) c.in_ok-graph.ensures.arcs c.starts.ensures c.requires)
    c.flagged_edges.ensures
