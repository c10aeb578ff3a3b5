-- The dual holds exactly where the condition doesn't.
use Rattle.std.proofs.Common.{◌≡◌, ℕ, true, false, not, ◌&&◌, ◌||◌, List, refl}
use Rattle.aut_base.proofs.lists.ListTests.{all-not, any-not}
use Rattle.aut_base.proofs.numbers.Truth.{not-and, not-or, not_twice}
use Rattle.aut_base.specs.Formula.{FormulaTree, FormulaTrees, True, False, Inf, Fin, And, Or, none, more, met, all_met, some_met}
use Rattle.aut_base.specs.Marks.{is_in}
use Rattle.acc_forms.specs.Dual.{dual, duals}

mutual
  pub met-dual : (cycle : List (List ℕ)) (f : FormulaTree) → met cycle (dual f) ≡ not (met cycle f)
  met-dual cycle True = refl
  met-dual cycle False = refl
  met-dual cycle (Inf set false) = all-not (is_in set) cycle
  met-dual cycle (Inf set true) = not_twice _ _ (any-not (is_in set) cycle)
  met-dual cycle (Fin set false) = not_twice _ _ (all-not (is_in set) cycle)
  met-dual cycle (Fin set true) = any-not (is_in set) cycle
  met-dual cycle (And a b cs) = not-and (met cycle a) (met cycle b && all_met cycle cs) _ _ (met-dual cycle a)
      (not-and (met cycle b) (all_met cycle cs) _ _ (met-dual cycle b) (some_met-duals cycle cs))
  met-dual cycle (Or a b cs) = not-or (met cycle a) (met cycle b || some_met cycle cs) _ _ (met-dual cycle a) (not-or (met cycle b) (some_met cycle cs) _ _ (met-dual cycle b) (all_met-duals cycle cs))

  some_met-duals : (cycle : List (List ℕ)) (fs : FormulaTrees) → some_met cycle (duals fs) ≡ not (all_met cycle fs)
  some_met-duals cycle none = refl
  some_met-duals cycle (more f fs) = not-and (met cycle f) (all_met cycle fs) _ _ (met-dual cycle f) (some_met-duals cycle fs)

  all_met-duals : (cycle : List (List ℕ)) (fs : FormulaTrees) → all_met cycle (duals fs) ≡ not (some_met cycle fs)
  all_met-duals cycle none = refl
  all_met-duals cycle (more f fs) = not-or (met cycle f) (some_met cycle fs) _ _ (met-dual cycle f) (all_met-duals cycle fs)
