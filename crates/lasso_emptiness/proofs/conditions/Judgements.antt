-- Verdicts on conjunctions and disjunctions, part after part.
use Rattle.std.proofs.Common.{◌≡◌, ℕ, ◌+◌, true, false, List, drop, Some, None, Option, slice_get, refl}
use Rattle.std.specs.Prelude.{MatchOption}
use Rattle.std.specs.List.{All, Contains, list_all, list_any}
use Rattle.std.proofs.lemmas.List.Elements.{All-contains_itself}
use Rattle.aut_base.proofs.lists.Members.{all_fails_at, any_at}
use Rattle.aut_base.specs.Formula.{FormulaTree, met}
use Rattle.aut_base.proofs.lists.Steps.{all_more, any_more}
use Rattle.lasso_emptiness.specs.declared.side.SetLiteral.{SetLiteral}
use Rattle.lasso_emptiness.specs.declared.verdict.Verdict.{Verdict}
use Rattle.lasso_emptiness.specs.declared.verdict.Verdict.TheVariants.{Met, Never, Open}
use Rattle.lasso_emptiness.specs.inner.Judged.{IsJudged, IsNever, has_side}

-- all parts so far are met, or a `Fin` in some part is open
abbrev pub AllSoFar : List (List ℕ) → List FormulaTree → ℕ → Option SetLiteral → Type 0
AllSoFar cycle fs place undecided =
    MatchOption undecided (list_all (met cycle) (drop place fs) ≡ list_all (met cycle) fs)
    (λ side. (list_any (has_side side.set side.neg) fs ≡ true) × (list_all (met cycle) fs ≡ false))

pub all_so_far_more : (cycle : List (List ℕ)) (fs : List FormulaTree) (place : ℕ) (part : FormulaTree) (undecided : Option SetLiteral) → slice_get fs place ≡ Some part
    → AllSoFar cycle fs place undecided → met cycle part ≡ true → AllSoFar cycle fs (place + 1) undecided
all_so_far_more cycle fs place part None is so_far holds = all_more (met cycle) fs place part is so_far holds
all_so_far_more cycle fs place part (Some side) is so_far holds = so_far

pub all_open : (cycle : List (List ℕ)) (fs : List FormulaTree) (place : ℕ) (part : FormulaTree) (side : SetLiteral) → slice_get fs place ≡ Some part → has_side side.set side.neg part ≡ true
    → met cycle part ≡ false → (list_any (has_side side.set side.neg) fs ≡ true) × (list_all (met cycle) fs ≡ false)
all_open cycle fs place part side is has fails = (any_at (has_side side.set side.neg) fs place part is has, all_fails_at (met cycle) fs place part is fails)

pub all_never : (cycle : List (List ℕ)) (fs : List FormulaTree) (place : ℕ) (part : FormulaTree) → slice_get fs place ≡ Some part → IsNever cycle part → (some : List (List ℕ))
    → All (Contains cycle) some → list_all (met some) fs ≡ false
all_never cycle fs place part is never some within = all_fails_at (met some) fs place part is (never some within)

-- no part so far is met, and a `Fin` in some part is open, or no cycle of some edges meets one of those so far
pub record OneSoFar (cycle : List (List ℕ)) (fs : List FormulaTree) (place : ℕ) (undecided : Option SetLiteral) : Type 0 where
  pub none_met : list_any (met cycle) (drop place fs) ≡ list_any (met cycle) fs
  pub by_open : MatchOption undecided ((some : List (List ℕ)) → All (Contains cycle) some → list_any (met some) (drop place fs) ≡ list_any (met some) fs)
      (λ side. list_any (has_side side.set side.neg) fs ≡ true)

pub one_so_far_never : (cycle : List (List ℕ)) (fs : List FormulaTree) (place : ℕ) (part : FormulaTree) (undecided : Option SetLiteral) → slice_get fs place ≡ Some part
    → OneSoFar cycle fs place undecided → IsNever cycle part → OneSoFar cycle fs (place + 1) undecided
one_so_far_never cycle fs place part None is so_far never = record {
  none_met = any_more (met cycle) fs place part is so_far.none_met (never cycle (All-contains_itself cycle));
  by_open = λ some within. any_more (met some) fs place part is (so_far.by_open some within) (never some within);
}
one_so_far_never cycle fs place part (Some side) is so_far never = record {
  none_met = any_more (met cycle) fs place part is so_far.none_met (never cycle (All-contains_itself cycle));
  by_open = so_far.by_open;
}

pub one_so_far_open : (cycle : List (List ℕ)) (fs : List FormulaTree) (place : ℕ) (part : FormulaTree) (undecided : Option SetLiteral) (side : SetLiteral) → slice_get fs place ≡ Some part
    → OneSoFar cycle fs place undecided → has_side side.set side.neg part ≡ true → met cycle part ≡ false → OneSoFar cycle fs (place + 1) (Some side)
one_so_far_open cycle fs place part undecided side is so_far has fails = record {
  none_met = any_more (met cycle) fs place part is so_far.none_met fails;
  by_open = any_at (has_side side.set side.neg) fs place part is has;
}

-- a condition that isn't judged as met isn't met
pub not_met : (cycle : List (List ℕ)) (f : FormulaTree) (v : Verdict) → IsJudged cycle f v → (v ≡ Met → ⊥) → met cycle f ≡ false
not_met cycle f Met judged other = absurd (other refl)
not_met cycle f Never judged other = judged cycle (All-contains_itself cycle)
not_met cycle f (Open side) judged other = judged.1
