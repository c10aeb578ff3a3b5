use Rattle.std.proofs.Common.{◌≡◌, ◌∙◌, ◌<◌, ℕ, [], ap, get_or, length, map, subst, sym}
use Rattle.std.specs.List.{filter}
use Rattle.std.proofs.lemmas.List.Elements.{All-weaker}
use Rattle.std.proofs.lemmas.Result.{IfOk-weaker}
use Rattle.lasso_emptiness.specs.declared.live.EdgeRef.{EdgeRef}
use Rattle.lasso_emptiness.specs.inner.Edges.{arc_of}
use Rattle.lasso_emptiness.specs.inner.Groups.{AreGroups, is_inside}
use Rattle.lasso_emptiness.proofs.components.Grouping.{are_groups, components_of}
use Rattle.lasso_emptiness.proofs.trails.Trails.{has_nodes}
use Rattle.lasso_emptiness.proofs.groups.component_groups.Goals as goal

pub components-requires : goal.components-requires
components-requires c = has_nodes _ c.args.states _ c.args.edges.now c.in_ok-graph.ensures.nodes c.in_ok-graph.ensures.arcs c.requires

pub groups_by_number-requires : goal.groups_by_number-requires
groups_by_number-requires c =
    let size = ap length c.as_slice.ensures ∙ c.in_ok-numbers.ensures.size ∙ c.in_ok-graph.ensures.nodes in
    All-weaker (λ (e : EdgeRef). (e.from < c.args.states) × (e.to < c.args.states)) (λ (e : EdgeRef). (e.from < length c.as_slice.result.now) × (e.to < length c.as_slice.result.now))
    (λ e ends. (subst (λ n. e.from < n) (sym size) ends.0, subst (λ n. e.to < n) (sym size) ends.1)) c.args.edges.now c.requires

pub returns : goal.returns
returns c =
    IfOk-weaker c.groups_by_number.result (λ groups. (k : ℕ) → get_or groups.items k [] ≡ filter (is_inside c.as_slice.result.now k) c.args.edges.now)
    (λ groups. AreGroups c.args.edges.now groups.items)
    (λ groups made. are_groups c.args.states c.as_slice.result.now c.args.edges.now groups.items c.requires
    (components_of _ c.args.states _ (map arc_of c.args.edges.now) _ c.as_slice.result.now c.in_ok-graph.ensures.nodes c.in_ok-graph.ensures.arcs c.as_slice.ensures c.in_ok-numbers.ensures) made)
    c.groups_by_number.ensures
