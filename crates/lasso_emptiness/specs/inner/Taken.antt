-- A condition with a truth value substituted for a `Fin`.
use Rattle.std.specs.Prelude.{ℕ, Bool, if◌then◌else◌}
use Rattle.aut_base.specs.Formula.{FormulaTree, FormulaTrees, True, False, Inf, Fin, And, Or, none, more}
use Rattle.lasso_emptiness.specs.inner.Judged.{is_same_side}

-- The condition with a truth value substituted for each `Fin` of this set literal. Laws: on a cycle where the `Fin` has that truth, the
-- condition keeps its own; and a cycle that meets the condition with false substituted meets the condition.
abbrev mutual
  pub substituted : ℕ → Bool → Bool → FormulaTree → FormulaTree
  substituted set neg value True = True
  substituted set neg value False = False
  substituted set neg value (Inf other neg') = Inf other neg'
  substituted set neg value (Fin other neg') = if is_same_side set neg other neg' then (if value then True else False) else Fin other neg'
  substituted set neg value (And a b cs) = And (substituted set neg value a) (substituted set neg value b) (all_taken set neg value cs)
  substituted set neg value (Or a b cs) = Or (substituted set neg value a) (substituted set neg value b) (all_taken set neg value cs)

  pub all_taken : ℕ → Bool → Bool → FormulaTrees → FormulaTrees
  all_taken set neg value none = none
  all_taken set neg value (more f fs) = more (substituted set neg value f) (all_taken set neg value fs)
