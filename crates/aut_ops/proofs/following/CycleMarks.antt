-- The truth of a condition on a cycle depends on the marks of the sets that it names alone.
use Rattle.std.proofs.Common.{◌≡◌, ◌≢◌, ◌∙◌, ◌==◌, ℕ, ◌+◌, ◌<◌, ◌≤◌, ◌||◌, true, false, not, List, [], ◌∷◌, ◌++◌, All, ap, arith, get_or, inl, inr, map, refl, sym}
use Rattle.std.proofs.lemmas.Bool.{cases_eq, eq-eqb, ne_eqb}
use Rattle.std.proofs.lemmas.List.Folds.{list_any-append, list_any_none}
use Rattle.std.specs.List.{AllZip}
use Rattle.acc_forms.proofs.ShiftLaw.{is_in-lowered, met-shift}
use Rattle.acc_forms.specs.Shift.{lowered, shift}
use Rattle.aut_base.proofs.lists.ListTests.{zip_all, zip_any}
use Rattle.aut_base.proofs.numbers.Truth.{or-false}
use Rattle.aut_base.specs.Formula.{EachSetsBelow, FormulaTree, FormulaTrees, SetsBelow, all_met, met, some_met}
use Rattle.aut_base.specs.Marks.{is_in}

-- the marks agree on the sets below n
abbrev pub AgreeBelow : ℕ → List ℕ → List ℕ → Type 0
AgreeBelow n c d = (set : ℕ) → set < n → is_in set c ≡ is_in set d

-- a condition over sets below n is the same on cycles whose marks agree on these
mutual
  pub met_below : (n : ℕ) (cs ds : List (List ℕ)) → AllZip (AgreeBelow n) cs ds → (f : FormulaTree) → SetsBelow n f → met cs f ≡ met ds f
  met_below n cs ds zip FormulaTree.True below = refl
  met_below n cs ds zip FormulaTree.False below = refl
  met_below n cs ds zip (FormulaTree.Inf set false) below = zip_any (AgreeBelow n) (is_in set) (is_in set) (λ c d same. same set below) cs ds zip
  met_below n cs ds zip (FormulaTree.Inf set true) below = zip_any (AgreeBelow n) (λ c. not (is_in set c)) (λ c. not (is_in set c)) (λ c d same. ap not (same set below)) cs ds zip
  met_below n cs ds zip (FormulaTree.Fin set false) below = zip_all (AgreeBelow n) (λ c. not (is_in set c)) (λ c. not (is_in set c)) (λ c d same. ap not (same set below)) cs ds zip
  met_below n cs ds zip (FormulaTree.Fin set true) below = zip_all (AgreeBelow n) (is_in set) (is_in set) (λ c d same. same set below) cs ds zip
  met_below n cs ds zip (FormulaTree.And f g fs) below = cc (met_below n cs ds zip f below.0, met_below n cs ds zip g below.1, all_below n cs ds zip fs below.2)
  met_below n cs ds zip (FormulaTree.Or f g fs) below = cc (met_below n cs ds zip f below.0, met_below n cs ds zip g below.1, some_below n cs ds zip fs below.2)

  all_below : (n : ℕ) (cs ds : List (List ℕ)) → AllZip (AgreeBelow n) cs ds → (fs : FormulaTrees) → EachSetsBelow n fs → all_met cs fs ≡ all_met ds fs
  all_below n cs ds zip FormulaTrees.none below = refl
  all_below n cs ds zip (FormulaTrees.more f fs) below = cc (met_below n cs ds zip f below.0, all_below n cs ds zip fs below.1)

  some_below : (n : ℕ) (cs ds : List (List ℕ)) → AllZip (AgreeBelow n) cs ds → (fs : FormulaTrees) → EachSetsBelow n fs → some_met cs fs ≡ some_met ds fs
  some_below n cs ds zip FormulaTrees.none below = refl
  some_below n cs ds zip (FormulaTrees.more f fs) below = cc (met_below n cs ds zip f below.0, some_below n cs ds zip fs below.1)

-- the sets below n, raised by k, agree with those below n
abbrev pub AgreeRaised : ℕ → ℕ → List ℕ → List ℕ → Type 0
AgreeRaised k n c d = (set : ℕ) → set < n → is_in (set + k) c ≡ is_in set d

zip_lowered : (k n : ℕ) (cs ds : List (List ℕ)) → AllZip (AgreeRaised k n) cs ds → AllZip (AgreeBelow n) (lowered k cs) ds
zip_lowered k n [] [] zip = tt
zip_lowered k n [] (d ∷ ds) zip = absurd zip
zip_lowered k n (c ∷ cs) [] zip = absurd zip
zip_lowered k n (c ∷ cs) (d ∷ ds) zip = (λ set low. sym (is_in-lowered k set c) ∙ zip.0 set low, zip_lowered k n cs ds zip.1)

pub met_raised : (k n : ℕ) (cs ds : List (List ℕ)) → AllZip (AgreeRaised k n) cs ds → (f : FormulaTree) → SetsBelow n f → met cs (shift k f) ≡ met ds f
met_raised k n cs ds zip f below = met-shift k cs f ∙ met_below n (lowered k cs) ds (zip_lowered k n cs ds zip) f below

-- a set that isn't among the marks
pub not_in : (set : ℕ) (marks : List ℕ) → All (λ m. m ≢ set) marks → is_in set marks ≡ false
not_in set marks other = list_any_none (λ m. m == set) marks (λ k d within. ne_eqb (get_or marks k d) set (other k d within))

pub not_in_past : (set n : ℕ) (marks : List ℕ) → n ≤ set → All (λ m. m < n) marks → is_in set marks ≡ false
not_in_past set n marks past below = not_in set marks (λ k d within e. let l = below k d within in absurd (omega (arith, l, e, past)))

-- every mark raised by k
abbrev pub raise : ℕ → List ℕ → List ℕ
raise k = map (λ mark. mark + k)

same_raised : (k m set : ℕ) → (m + k == set + k) ≡ (m == set)
same_raised k m set = elim (cases_eq m set) [
  | inl e ↦ eq-eqb (m + k) (set + k) (ap (λ n. n + k) e) ∙ sym (eq-eqb m set e)
  | inr f ↦ ne_eqb (m + k) (set + k) (λ e. f (omega (arith, e))) ∙ sym (ne_eqb m set f)
]

pub is_in_raise : (k set : ℕ) (marks : List ℕ) → is_in (set + k) (raise k marks) ≡ is_in set marks
is_in_raise k set [] = refl
is_in_raise k set (m ∷ ms) = ap (λ b. b || is_in (set + k) (raise k ms)) (same_raised k m set) ∙ ap (λ b. (m == set) || b) (is_in_raise k set ms)

pub not_in_raise : (k set : ℕ) (marks : List ℕ) → set < k → is_in set (raise k marks) ≡ false
not_in_raise k set [] low = refl
not_in_raise k set (m ∷ ms) low = ap (λ b. b || is_in set (raise k ms)) (ne_eqb (m + k) set (λ e. absurd (omega (arith, e, low)))) ∙ not_in_raise k set ms low

-- the marks of a product edge, where those of the first edge are below k
pub joint_first : (k : ℕ) (marks others : List ℕ) → AgreeBelow k (marks ++ raise k others) marks
joint_first k marks others set low = list_any-append (λ m. m == set) marks (raise k others) ∙ (ap (λ b. is_in set marks || b) (not_in_raise k set others low) ∙ or-false (is_in set marks))

pub joint_second : (k n : ℕ) (marks others : List ℕ) → All (λ m. m < k) marks → AgreeRaised k n (marks ++ raise k others) others
joint_second k n marks others below set low = list_any-append (λ m. m == set + k) marks (raise k others)
    ∙ (ap (λ b. b || is_in (set + k) (raise k others)) (not_in_past (set + k) k marks (omega arith) below) ∙ is_in_raise k set others)
