use Rattle.std.proofs.Common.{◌∙◌, ap, subst, sym}
use Rattle.acc_forms.specs.Terms.{terms}
use Rattle.aut_base.specs.Automaton.{Automaton}
use Rattle.aut_core.specs.SymbolicAutomata.{automaton_of}
use Rattle.aut_core.specs.OtherNames.{AcceptTheSame}
use Rattle.plan_meaning.proofs.changes.DisjunctiveForm.{disjunctive_accepts, disjuncts_below, same_disjuncts}
use Rattle.plan_meaning.proofs.changing.disjunctive.with_disjuncts.Goals as goal

pub with_formula-requires : goal.with_formula-requires
with_formula-requires c = disjuncts_below c.args.a c.well_formedness.ensures _ c.in_ok-terms.terms (c.in_ok-terms.ensures.list ∙ ap terms c.formula.ensures) c.in_ok-formula.ensures.tree

pub returns-clause-shape : goal.returns-clause-shape
returns-clause-shape c =
    same_disjuncts c.args.a _ _ c.in_ok-terms.terms (c.in_ok-terms.ensures.list ∙ ap terms c.formula.ensures) c.in_ok-formula.ensures.tree c.with_formula.ensures

pub returns-clause-accepts : goal.returns-clause-accepts
returns-clause-accepts c =
    let same = same_disjuncts c.args.a _ _ c.in_ok-terms.terms (c.in_ok-terms.ensures.list ∙ ap terms c.formula.ensures) c.in_ok-formula.ensures.tree c.with_formula.ensures in
    subst (λ (x : Automaton). AcceptTheSame x (automaton_of c.args.a)) (sym same) (disjunctive_accepts (automaton_of c.args.a))
