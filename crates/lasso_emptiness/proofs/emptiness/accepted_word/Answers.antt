use Rattle.std.proofs.Common.{◌∙◌, List, length, map, subst, sym}
use Rattle.std.specs.List.{All, Contains}
use Rattle.aut_base.proofs.lists.Members.{each_there}
use Rattle.aut_base.proofs.Outcomes.{some_said}
use Rattle.aut_base.specs.Formula.{FormulaTree, formula_tree}
use Rattle.aut_core.specs.SymbolicAutomata.{automaton_of}
use Rattle.aut_core.specs.declared.link.Link.{Link}
use Rattle.graph_walk.specs.Reach.{ReachedFrom}
use Rattle.lasso_emptiness.specs.Emptiness.{AcceptsNothing}
use Rattle.lasso_emptiness.specs.declared.live.EdgeRef.{EdgeRef}
use Rattle.lasso_emptiness.specs.inner.AcceptingComponents.{IsAcceptingComponent}
use Rattle.lasso_emptiness.specs.inner.Edges.{IsEdgeInRange, arc_of}
use Rattle.lasso_emptiness.specs.inner.Live.{IsPassable, IsReachedEdge}
use Rattle.lasso_emptiness.specs.inner.Trails.{IsAccepting}
use Rattle.lasso_emptiness.proofs.components.Searching.{accepting_weaker}
use Rattle.lasso_emptiness.proofs.trails.Accepted.{reduced_word}
use Rattle.lasso_emptiness.proofs.trails.Lettered.{passable_within}
use Rattle.lasso_emptiness.proofs.trails.Trails.{trail_kind}
use Rattle.lasso_emptiness.proofs.emptiness.accepted_word.Goals as goal

pub accepting_cycle-requires-clause-within : goal.accepting_cycle-requires-clause-within
accepting_cycle-requires-clause-within c =
    let a = c.args.a.now in
    let carrier = some_said (AcceptsNothing (automaton_of a)) (IsAcceptingComponent a.links (IsReachedEdge a c.as_slice.result.now) a.formula) c.in_ok-component.field-0 c.in-Some.component
    c.in-Some.is
    c.in_ok-component.ensures in
    subst (λ (es : List EdgeRef). All (IsEdgeInRange (length c.links.result.now) c.states.result) es) (sym c.as_slice-in-Some.ensures)
    (subst (λ (ls : List Link). All (IsEdgeInRange (length ls) c.states.result) c.in-Some.component) (sym c.links.ensures)
    (subst (λ n. All (IsEdgeInRange (length a.links) n) c.in-Some.component) (sym c.states.ensures)
    (each_there (IsEdgeInRange (length a.links) a.states) c.in-Some.component (λ e here. passable_within a c.well_formedness.ensures e (carrier.kind e here).passable))))

pub word_around-requires-clause-reached : goal.word_around-requires-clause-reached
word_around-requires-clause-reached c = λ e here.
    let a = c.args.a.now in
    let carrier = some_said (AcceptsNothing (automaton_of a)) (IsAcceptingComponent a.links (IsReachedEdge a c.as_slice.result.now) a.formula) c.in_ok-component.field-0 c.in-Some.component
    c.in-Some.is
    c.in_ok-component.ensures in
    let around = c.in_ok-cycle-in-Some.ensures in
    let on = trail_kind (Contains c.as_slice-in-Some.result.now) around.state around.state c.in_ok-cycle-in-Some.cycle e around.closed
    (subst (λ (es : List EdgeRef). Contains es e) c.as_slice-in-Some-3.ensures here) in
    subst (λ (es : List EdgeRef). ReachedFrom (map arc_of es) a.starts e.from) (c.as_slice.ensures ∙ sym c.as_slice-in-Some-2.ensures)
    (carrier.kind e (subst (λ (es : List EdgeRef). Contains es e) c.as_slice-in-Some.ensures on)).reached

pub word_around-requires-clause-accepting : goal.word_around-requires-clause-accepting
word_around-requires-clause-accepting c =
    let a = c.args.a.now in
    let carrier = some_said (AcceptsNothing (automaton_of a)) (IsAcceptingComponent a.links (IsReachedEdge a c.as_slice.result.now) a.formula) c.in_ok-component.field-0 c.in-Some.component
    c.in-Some.is
    c.in_ok-component.ensures in
    let cycle = c.in_ok-cycle-in-Some.cycle in
    let component = c.as_slice-in-Some.result.now in
    let own = subst (λ (f : FormulaTree). IsAccepting a.links (Contains component) f cycle) c.formula.ensures
    (subst (λ (ls : List Link). IsAccepting ls (Contains component) (formula_tree c.formula.result.now) cycle) c.links.ensures c.in_ok-cycle-in-Some.ensures) in
    subst (λ (es : List EdgeRef). IsAccepting a.links (IsPassable a) a.formula es) (sym c.as_slice-in-Some-3.ensures)
    (accepting_weaker a.links (Contains component) (IsPassable a) a.formula cycle
    (λ e on. (carrier.kind e (subst (λ (es : List EdgeRef). Contains es e) c.as_slice-in-Some.ensures on)).passable) own)

pub returns-in-Some : goal.returns-in-Some
returns-in-Some c =
    reduced_word c.args.a.now c.in_ok-word-in-Some.word c.in_ok-reduce-in-Some.field-0 c.in_ok-word-in-Some.word.goes_on c.in_ok-reduce-in-Some.field-0.goes_on c.in_ok-word-in-Some.ensures
    c.in_ok-reduce-in-Some.ensures.same c.in_ok-reduce-in-Some.ensures.reduced (c.in_ok-reduce-in-Some.ensures.accepted _)
