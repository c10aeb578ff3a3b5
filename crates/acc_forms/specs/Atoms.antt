-- Whether a condition has an atom `Fin`.
use Rattle.std.specs.Prelude.{Bool, true, false, ◌||◌}
use Rattle.aut_base.specs.Formula.{FormulaTree, FormulaTrees, True, False, Inf, Fin, And, Or, none, more}

-- Whether some `Fin` occurs in the condition. Law: a condition without `Fin` that holds on a cycle holds on each cycle that has
-- further edges after these.
abbrev mutual
  pub has_fin : FormulaTree → Bool
  has_fin True = false
  has_fin False = false
  has_fin (Inf set neg) = false
  has_fin (Fin set neg) = true
  has_fin (And a b cs) = has_fin a || (has_fin b || some_fin cs)
  has_fin (Or a b cs) = has_fin a || (has_fin b || some_fin cs)

  pub some_fin : FormulaTrees → Bool
  some_fin none = false
  some_fin (more f fs) = has_fin f || some_fin fs
