use Rattle.std.proofs.Common.{◌∙◌, ap, subst, sym}
use Rattle.acc_forms.specs.Dual.{dual}
use Rattle.aut_base.specs.Formula.{FormulaTree, SetsBelow}
use Rattle.aut_core.specs.SymbolicAutomata.{SymbolicAutomaton, automaton_of}
use Rattle.parity_det.proofs.DualSets.{dual_below}
use Rattle.parity_laws.proofs.complements.Dual.{complements_of_the_same, dual_is_complement}
use Rattle.parity_laws.specs.Complement.{AreComplementLanguages, dualised}
use Rattle.parity_det.proofs.complements.complement.Goals as goal

pub with_formula-requires : goal.with_formula-requires
with_formula-requires c =
    subst (SetsBelow c.in_ok-own.own.sets) (sym (c.in_ok-formula.ensures.tree ∙ ap dual c.formula.ensures))
    (dual_below c.in_ok-own.own.sets c.in_ok-own.own.formula c.well_formedness-2.ensures.well_formed.formula)

pub returns-clause-shape : goal.returns-clause-shape
returns-clause-shape c = record {
  form = automaton_of c.in_ok-own.own;
  is_form = c.in_ok-own.ensures.shape;
  is = ap (λ (k : SymbolicAutomaton). automaton_of k) c.with_formula.ensures
      ∙ ap (λ (f : FormulaTree). automaton_of (record c.in_ok-own.own { formula = f })) (c.in_ok-formula.ensures.tree ∙ ap dual c.formula.ensures);
}

pub returns-clause-complements : goal.returns-clause-complements
returns-clause-complements c =
    let a = automaton_of c.args.a.now in
    let own = automaton_of c.in_ok-own.own in
    let same = ap (λ (k : SymbolicAutomaton). automaton_of k) c.with_formula.ensures
    ∙ ap (λ (f : FormulaTree). automaton_of (record c.in_ok-own.own { formula = f })) (c.in_ok-formula.ensures.tree ∙ ap dual c.formula.ensures) in
    subst (AreComplementLanguages a) (sym same) (complements_of_the_same a own (dualised own) c.in_ok-own.ensures.accepts
    (dual_is_complement own c.well_formedness-2.ensures.well_formed c.in_ok-own.ensures.deterministic c.in_ok-own.ensures.complete))
