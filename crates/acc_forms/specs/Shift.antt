-- A condition with the numbers of its sets raised.
use Rattle.std.specs.Prelude.{ℕ, ◌+◌, ◌-◌, nat_le, List, map}
use Rattle.std.specs.List.{filter}
use Rattle.aut_base.specs.Formula.{FormulaTree, FormulaTrees, True, False, Inf, Fin, And, Or, none, more}

-- The number of every set raised by n. Laws: it holds on a cycle exactly where the condition holds on the lowered one.
-- So on a raised cycle it holds exactly where the condition holds on the cycle.
abbrev mutual
  pub shift : ℕ → FormulaTree → FormulaTree
  shift n True = True
  shift n False = False
  shift n (Inf set neg) = Inf (set + n) neg
  shift n (Fin set neg) = Fin (set + n) neg
  shift n (And a b cs) = And (shift n a) (shift n b) (shifts n cs)
  shift n (Or a b cs) = Or (shift n a) (shift n b) (shifts n cs)

  pub shifts : ℕ → FormulaTrees → FormulaTrees
  shifts n none = none
  shifts n (more f fs) = more (shift n f) (shifts n fs)

-- the cycle with every mark raised by n
abbrev pub raised : ℕ → List (List ℕ) → List (List ℕ)
raised n cycle = map (map (λ mark. mark + n)) cycle

-- the cycle with the marks from n on alone, lowered by n
abbrev pub lowered : ℕ → List (List ℕ) → List (List ℕ)
lowered n cycle = map (λ marks. map (λ mark. mark - n) (filter (nat_le n) marks)) cycle
