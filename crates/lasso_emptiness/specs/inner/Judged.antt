-- The verdicts on a condition by all edges of a component together.
use Rattle.std.specs.Prelude.{◌≡◌, ℕ, Bool, true, false, ◌&&◌, ◌||◌, ◌+◌, List, All, Contains, nat_eq}
use Rattle.std.specs.Bool.{beq}
use Rattle.std.specs.List.{list_all, list_any}
use Rattle.aut_base.specs.Formula.{FormulaTree, FormulaTrees, True, False, Inf, Fin, And, Or, none, more, met}
use Rattle.lasso_emptiness.specs.declared.verdict.Verdict.{Verdict}
use Rattle.lasso_emptiness.specs.declared.verdict.Verdict.TheVariants.{Met, Never, Open}

abbrev pub is_same_side : ℕ → Bool → ℕ → Bool → Bool
is_same_side set neg other neg' = nat_eq set other && beq neg neg'

-- whether a `Fin` of this set literal occurs in the condition
abbrev mutual
  pub has_side : ℕ → Bool → FormulaTree → Bool
  has_side set neg True = false
  has_side set neg False = false
  has_side set neg (Inf other neg') = false
  has_side set neg (Fin other neg') = is_same_side set neg other neg'
  has_side set neg (And a b cs) = has_side set neg a || (has_side set neg b || some_has_side set neg cs)
  has_side set neg (Or a b cs) = has_side set neg a || (has_side set neg b || some_has_side set neg cs)

  pub some_has_side : ℕ → Bool → FormulaTrees → Bool
  some_has_side set neg none = false
  some_has_side set neg (more f fs) = has_side set neg f || some_has_side set neg fs

-- the number of `Fin` in a condition, a measure by which the search ends
abbrev mutual
  pub fin_count : FormulaTree → ℕ
  fin_count True = 0
  fin_count False = 0
  fin_count (Inf set neg) = 0
  fin_count (Fin set neg) = 1
  fin_count (And a b cs) = fin_count a + (fin_count b + all_fins cs)
  fin_count (Or a b cs) = fin_count a + (fin_count b + all_fins cs)

  pub all_fins : FormulaTrees → ℕ
  all_fins none = 0
  all_fins (more f fs) = fin_count f + all_fins fs

-- no cycle of some of these edges meets the condition
abbrev pub IsNever : List (List ℕ) → FormulaTree → Type 0
IsNever cycle f = (some : List (List ℕ)) → All (Contains cycle) some → met some f ≡ false

-- All edges together meet the condition; or no cycle of some of them does; or all together don't, and a `Fin` of the set literal
-- `side` occurs in the condition, so that fewer edges may.
abbrev pub IsJudged : List (List ℕ) → FormulaTree → Verdict → Type 0
IsJudged cycle f Met = met cycle f ≡ true
IsJudged cycle f Never = IsNever cycle f
IsJudged cycle f (Open side) = (has_side side.set side.neg f ≡ true) × (met cycle f ≡ false)

-- the verdict on a conjunction of these
abbrev pub AreAllJudged : List (List ℕ) → List FormulaTree → Verdict → Type 0
AreAllJudged cycle fs Met = list_all (met cycle) fs ≡ true
AreAllJudged cycle fs Never = (some : List (List ℕ)) → All (Contains cycle) some → list_all (met some) fs ≡ false
AreAllJudged cycle fs (Open side) = (list_any (has_side side.set side.neg) fs ≡ true) × (list_all (met cycle) fs ≡ false)

-- the verdict on a disjunction of these
abbrev pub IsOneJudged : List (List ℕ) → List FormulaTree → Verdict → Type 0
IsOneJudged cycle fs Met = list_any (met cycle) fs ≡ true
IsOneJudged cycle fs Never = (some : List (List ℕ)) → All (Contains cycle) some → list_any (met some) fs ≡ false
IsOneJudged cycle fs (Open side) = (list_any (has_side side.set side.neg) fs ≡ true) × (list_any (met cycle) fs ≡ false)
