-- The dual of a condition has the same sets.
use Rattle.std.proofs.Common.{ℕ}
use Rattle.acc_forms.specs.Dual.{dual, duals}
use Rattle.aut_base.specs.Formula.{And, EachSetsBelow, False, Fin, FormulaTree, FormulaTrees, Inf, Or, SetsBelow, True, more, none}

mutual
  pub dual_below : (n : ℕ) (f : FormulaTree) → SetsBelow n f → SetsBelow n (dual f)
  dual_below n True below = tt
  dual_below n False below = tt
  dual_below n (Inf set neg) below = below
  dual_below n (Fin set neg) below = below
  dual_below n (And f g fs) below = (dual_below n f below.0, dual_below n g below.1, duals_below n fs below.2)
  dual_below n (Or f g fs) below = (dual_below n f below.0, dual_below n g below.1, duals_below n fs below.2)

  duals_below : (n : ℕ) (fs : FormulaTrees) → EachSetsBelow n fs → EachSetsBelow n (duals fs)
  duals_below n none below = tt
  duals_below n (more f fs) below = (dual_below n f below.0, duals_below n fs below.1)
