use Rattle.std.proofs.Common.{◌∙◌, ◌<◌, ℕ, List, All, ap, filter, map, subst, sym}
use Rattle.std.proofs.lemmas.List.Elements.{All-map}
use Rattle.std.proofs.lemmas.Result.{IfOk-weaker}
use Rattle.aut_core.specs.SymbolicAutomata.{automaton_of}
use Rattle.aut_core.specs.declared.link.Link.{Link}
use Rattle.aut_ops.proofs.flagged.Alone.{links_from_states}
use Rattle.aut_ops.proofs.flagged.Between.{graph_nodes, graph_reached}
use Rattle.aut_ops.proofs.flagged.Useful.{found_useful, turned_nodes}
use Rattle.aut_ops.specs.inner.Renumbering.{both_flagged, link_closes, reversed_arc}
use Rattle.graph_walk.specs.Components.{AreComponents}
use Rattle.graph_walk.specs.Reach.{AreReachFlags}
use Rattle.graph_walk.specs.Walk.{HasNodes}
use Rattle.aut_ops.proofs.pruning.useful_states.Goals as goal

pub reach-requires-clause-nodes : goal.reach-requires-clause-nodes
reach-requires-clause-nodes c = graph_nodes (automaton_of c.args.b.now) c.well_formedness.ensures.well_formed _ _ c.in_ok-graph.ensures.nodes c.in_ok-graph.ensures.arcs

pub components-requires : goal.components-requires
components-requires c = graph_nodes (automaton_of c.args.b.now) c.well_formedness.ensures.well_formed _ _ c.in_ok-graph.ensures.nodes c.in_ok-graph.ensures.arcs

pub reach-requires-2-clause-nodes : goal.reach-requires-2-clause-nodes
reach-requires-2-clause-nodes c =
    let graph = c.in_ok-graph.graph in
    let back = c.in_ok-turned.field-0 in
    let within = turned_nodes graph.nodes graph.arcs
    (graph_nodes (automaton_of c.args.b.now) c.well_formedness.ensures.well_formed graph.nodes graph.arcs c.in_ok-graph.ensures.nodes c.in_ok-graph.ensures.arcs) in
    subst (HasNodes back.nodes) (sym c.in_ok-turned.ensures.arcs) (subst (λ n. HasNodes n (map reversed_arc graph.arcs)) (sym c.in_ok-turned.ensures.nodes) within)

pub reach-requires-2-clause-from : goal.reach-requires-2-clause-from
reach-requires-2-clause-from c =
    let back = c.in_ok-turned.field-0 in
    let closes = link_closes c.args.b.now c.in_ok-numbers.numbers in
    let within = links_from_states c.args.b.now c.well_formedness.ensures back.nodes (c.in_ok-turned.ensures.nodes ∙ c.in_ok-graph.ensures.nodes) closes in
    subst (All (λ p. p < back.nodes)) (sym c.in_ok-sources.ensures) (All-map (λ p. p < back.nodes) (λ (l : Link). l.from) (filter closes c.args.b.now.links) within)

pub returns : goal.returns
returns c =
    let b = c.args.b.now in
    let a = automaton_of b in
    let graph = c.in_ok-graph.graph in
    let back = c.in_ok-turned.field-0 in
    let nodes = c.in_ok-graph.ensures.nodes in
    let arcs = c.in_ok-graph.ensures.arcs in
    let numbers = c.in_ok-numbers.numbers in
    let sources = c.in_ok-sources.sources in
    let are = subst (λ (ls : List (ℕ × ℕ)). AreComponents b.states ls numbers) arcs (subst (λ n. AreComponents n graph.arcs numbers) nodes c.in_ok-numbers.ensures) in
    let first = graph_reached a c.well_formedness.ensures.well_formed graph.nodes graph.arcs _ c.in_ok-reached.reached nodes arcs c.starts.ensures c.in_ok-reached.ensures in
    let turned_arcs = c.in_ok-turned.ensures.arcs ∙ ap (map reversed_arc) arcs in
    let second = subst (λ (ls : List (ℕ × ℕ)). AreReachFlags b.states ls sources c.in_ok-leading.leading) turned_arcs
    (subst (λ n. AreReachFlags n back.arcs sources c.in_ok-leading.leading) (c.in_ok-turned.ensures.nodes ∙ nodes) c.in_ok-leading.ensures) in
    IfOk-weaker c.both.result _ _ (λ flags is. found_useful b c.well_formedness.ensures numbers are sources c.in_ok-reached.reached c.in_ok-leading.leading flags c.in_ok-sources.ensures first second
    (is ∙ (λ i. both_flagged (c.as_slice.ensures i) (c.as_slice-2.ensures i)))) c.both.ensures
