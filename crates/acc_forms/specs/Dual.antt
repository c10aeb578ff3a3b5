-- The dual of a condition.
use Rattle.aut_base.specs.Formula.{FormulaTree, FormulaTrees, True, False, Inf, Fin, And, Or, none, more}

-- `t` and `f`, And and Or, Inf and Fin exchanged. Law: it holds on a cycle exactly where the condition doesn't.
abbrev mutual
  pub dual : FormulaTree → FormulaTree
  dual True = False
  dual False = True
  dual (Inf set neg) = Fin set neg
  dual (Fin set neg) = Inf set neg
  dual (And a b cs) = Or (dual a) (dual b) (duals cs)
  dual (Or a b cs) = And (dual a) (dual b) (duals cs)

  pub duals : FormulaTrees → FormulaTrees
  duals none = none
  duals (more f fs) = more (dual f) (duals fs)
