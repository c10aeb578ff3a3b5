use Rattle.std.proofs.Common.{subst, sym}
use Rattle.aut_base.specs.Formula.{FormulaTree, SetsBelow, formula_tree}
use Rattle.aut_core.proofs.OtherFormula.{kept_under}
use Rattle.aut_core.specs.SymbolicAutomata.{SymbolicAutomaton}
use Rattle.aut_core.specs.Kept.{IsIndexed}
use Rattle.aut_core.specs.declared.automaton.Fields.{Fields}
use Rattle.aut_core.proofs.automaton.Automaton.with_formula.Goals as goal

pub invariant_of-result : goal.invariant_of-result
invariant_of-result c =
    let f = formula_tree c.args.formula in
    let core : Fields → FormulaTree → SymbolicAutomaton = λ s g. record { names = s.names; starts = s.starts; states = s.states; links = s.links; sets = s.sets; formula = g; store = s.guards } in
    let own = c.self.inside.fields.value in
    let below : SetsBelow own.sets f = subst (λ (k : SymbolicAutomaton). SetsBelow k.sets f) (sym c.self.view_is) c.requires in
    subst (λ (s : Fields). IsIndexed (core s f) s.rows s.is_deterministic s.is_complete) (sym c.deref_mut.ensures.value)
    (kept_under (core own (formula_tree own.formula)) f own.rows own.is_deterministic own.is_complete below c.self.invariant)
