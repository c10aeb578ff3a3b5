use Rattle.std.proofs.Common.{◌<◌, List, length, subst, sym}
use Rattle.std.specs.List.{All, Contains}
use Rattle.std.specs.Prelude.{MatchOption}
use Rattle.std.proofs.lemmas.Result.{IfOk-weaker}
use Rattle.aut_base.proofs.lists.Members.{each_there}
use Rattle.aut_base.specs.Formula.{formula_tree}
use Rattle.aut_core.specs.SymbolicAutomata.{automaton_of}
use Rattle.aut_core.specs.declared.link.Link.{Link}
use Rattle.lasso_emptiness.specs.Emptiness.{AcceptsNothing}
use Rattle.lasso_emptiness.specs.declared.live.EdgeRef.{EdgeRef}
use Rattle.lasso_emptiness.specs.inner.AcceptingComponents.{Finds, IsAcceptingComponent}
use Rattle.lasso_emptiness.specs.inner.Edges.{IsEdgeInRange}
use Rattle.lasso_emptiness.specs.inner.Live.{IsReachedEdge}
use Rattle.lasso_emptiness.proofs.trails.Accepted.{component_said, finds_in, leaves_reached}
use Rattle.lasso_emptiness.proofs.trails.Lettered.{passable_within}
use Rattle.lasso_emptiness.proofs.emptiness.accepting_component.Goals as goal

pub reached_edges-requires : goal.reached_edges-requires
reached_edges-requires c =
    each_there (λ (e : EdgeRef). (e.from < c.args.a.now.states) × (e.to < c.args.a.now.states)) c.args.passable.now
    (λ e here. let within = passable_within c.args.a.now c.well_formedness.ensures e (c.requires.each e here) in (within.from, within.to))

pub search-requires : goal.search-requires
search-requires c =
    let a = c.args.a.now in
    let reached = c.in_ok-reached.reached in
    subst (λ (es : List EdgeRef). All (IsEdgeInRange (length c.links.result.now) c.states.result) es) (sym c.as_slice.ensures)
    (subst (λ (ls : List Link). All (IsEdgeInRange (length ls) c.states.result) reached) (sym c.links.ensures)
    (subst (λ n. All (IsEdgeInRange (length a.links) n) reached) (sym c.states.ensures)
    (each_there (IsEdgeInRange (length a.links) a.states) reached
    (λ e here. passable_within a c.well_formedness.ensures e (c.requires.each e (leaves_reached a.starts c.args.passable.now reached c.in_ok-reached.ensures e here).0)))))

pub returns : goal.returns
returns c =
    let a = c.args.a.now in
    let passable = c.args.passable.now in
    let reached = c.in_ok-reached.reached in
    IfOk-weaker c.search.result (Finds c.links.result.now (Contains c.as_slice.result.now) (formula_tree c.formula.result.now))
    (λ found. MatchOption found (AcceptsNothing (automaton_of a)) (IsAcceptingComponent a.links (IsReachedEdge a passable) a.formula))
    (λ found finds. component_said a c.well_formedness.ensures passable reached c.requires c.in_ok-reached.ensures found
    (finds_in c.links.result.now a.links c.as_slice.result.now reached (formula_tree c.formula.result.now) a.formula found c.links.ensures c.as_slice.ensures c.formula.ensures finds))
    c.search.ensures
