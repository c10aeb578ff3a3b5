use Rattle.std.proofs.Common.{◌∙◌, ◌+◌, ◌++◌, ◌-◌, ap, arith, map, subst, sym}
use Rattle.std.proofs.lemmas.Result.{IfOk-weaker}
use Rattle.aut_base.specs.Automaton.{Automaton}
use Rattle.aut_base.specs.Formula.{formula_tree}
use Rattle.aut_core.specs.SymbolicAutomata.{SymbolicAutomaton, automaton_of}
use Rattle.aut_ops.proofs.links.Linked.{sets_within}
use Rattle.aut_ops.proofs.following.SumLinks.{IsSide, side}
use Rattle.aut_ops.proofs.following.SumRuns.{sum_accepts}
use Rattle.aut_ops.specs.Languages.{AcceptsEither}
use Rattle.aut_ops.proofs.sums.side_by_side.Goals.{After-states}
use Rattle.aut_ops.proofs.sums.side_by_side.Goals as goal

pub either_condition-requires : goal.either_condition-requires
either_condition-requires c = sets_within c.args.b.now c.well_formedness-2.ensures (4294967296 - c.sets-sets.result) (formula_tree c.formula-2.result.now)
    (omega (arith, c.sets-sets.ensures, c.requires.sets)) c.formula-2.ensures

-- the parts of the sum that are passed to `from_parts`
abbrev core : After-states → SymbolicAutomaton
core c = record {
  names = c.in_ok-names.names;
  starts = c.in_ok-starts.starts;
  states = c.states-states.result + c.states.result;
  links = c.push_moved.new.links;
  sets = c.sets-sets.result + c.sets.result + 1;
  formula = formula_tree c.in_ok-formula.formula;
  store = c.in_ok-guards.guards;
}

is_sum : (c : After-states) → IsSide c.args.a.now c.args.b.now (core c)
is_sum c = side c.args.a.now c.args.b.now c.in_ok-guards.guards c.in_ok-names.names c.in_ok-starts.starts c.states-states.result c.states.result c.sets-sets.result c.sets.result
    c.new-links.result c.push_links.new.links c.links.result.now c.push_moved.new.links c.links-2.result.now (formula_tree c.in_ok-formula.formula) (formula_tree c.formula.result.now)
    (formula_tree c.formula-2.result.now) c.well_formedness.ensures c.well_formedness-2.ensures c.requires.names c.requires.store (c.in_ok-guards.ensures ∙ c.guards.ensures)
    (c.in_ok-names.ensures ∙ c.names.ensures) (c.in_ok-starts.ensures ∙ (λ i. c.starts.ensures i ++ map (λ p. p + c.states-states.result) (c.starts-2.ensures i))) c.states-states.ensures
    c.states.ensures c.sets-sets.ensures c.sets.ensures c.new-links.ensures c.links.ensures c.in_ok-push_links.ensures c.links-2.ensures c.in_ok-push_moved.ensures c.formula.ensures
    c.formula-2.ensures c.in_ok-formula.ensures

pub from_parts-requires : goal.from_parts-requires
from_parts-requires c = (is_sum (goal.at.from_parts-requires c).After-states).parts

pub returns-clause-shape : goal.returns-clause-shape
returns-clause-shape c = IfOk-weaker c.from_parts.result _ _ (λ made e. ap automaton_of e ∙ (is_sum (goal.at.returns-clause-shape c).After-states).is) c.from_parts.ensures

pub returns-clause-accepts : goal.returns-clause-accepts
returns-clause-accepts c =
    let a = automaton_of c.args.a.now in
    let b = automaton_of c.args.b.now in
    IfOk-weaker c.from_parts.result _ _ (λ made e. subst (λ (x : Automaton). AcceptsEither x a b) (sym (ap automaton_of e ∙ (is_sum (goal.at.returns-clause-accepts c).After-states).is))
    (sum_accepts a b c.requires.names c.well_formedness.ensures.well_formed c.well_formedness-2.ensures.well_formed)) c.from_parts.ensures
