-- A shifted condition holds exactly where the condition holds on the lowered cycle.
use Rattle.std.proofs.Common.{◌≡◌, ◌∙◌, ℕ, ◌+◌, ◌-◌, ◌≤◌, true, false, cond, not, ◌&&◌, ◌||◌, List, [], ◌∷◌, map, nat_eq, nat_le, refl, sym, ap, arith, ⊎_elim}
use Rattle.std.proofs.lemmas.Bool.{cases_lt, cases_eq, eq-eqb, ne_eqb, le-leb, lt-leb}
use Rattle.std.specs.List.{list_any, filter}
use Rattle.aut_base.proofs.lists.ListTests.{all-map_alike, any-map_alike}
use Rattle.aut_base.specs.Formula.{FormulaTree, FormulaTrees, True, False, Inf, Fin, And, Or, none, more, met, all_met, some_met}
use Rattle.aut_base.specs.Marks.{is_in}
use Rattle.acc_forms.specs.Shift.{shift, shifts, raised, lowered}

same_test : (n set mark : ℕ) → n ≤ mark → nat_eq mark (set + n) ≡ nat_eq (mark - n) set
same_test n set mark least =
    ⊎_elim
    (λ e. let lower : mark - n ≡ set = omega arith in eq-eqb mark (set + n) e ∙ sym (eq-eqb (mark - n) set lower))
    (λ differ. ne_eqb mark (set + n) differ ∙ sym (ne_eqb (mark - n) set (λ h. differ (omega arith))))
    (cases_eq mark (set + n))

-- a single mark
mark_in : (n set mark : ℕ) (rest : List ℕ)
    → (nat_eq mark (set + n) || list_any (λ m. nat_eq m set) (map (λ m. m - n) rest)) ≡ list_any (λ m. nat_eq m set) (map (λ m. m - n) (cond (nat_le n mark) (mark ∷ rest) rest))
mark_in n set mark rest =
    ⊎_elim
    (λ less.
    let other : nat_eq mark (set + n) ≡ false = ne_eqb mark (set + n) (omega arith) in
    let dropped : nat_le n mark ≡ false = lt-leb n mark less in
    rw (other, dropped) refl)
    (λ least.
    let kept : nat_le n mark ≡ true = le-leb n mark least in
    let same : nat_eq mark (set + n) ≡ nat_eq (mark - n) set = same_test n set mark least in
    rw (kept, same) refl)
    (cases_lt mark n)

pub is_in-lowered : (n set : ℕ) (marks : List ℕ) → is_in (set + n) marks ≡ is_in set (map (λ mark. mark - n) (filter (nat_le n) marks))
is_in-lowered n set [] = refl
is_in-lowered n set (mark ∷ marks) = ap (λ b. nat_eq mark (set + n) || b) (is_in-lowered n set marks) ∙ mark_in n set mark (filter (nat_le n) marks)

abbrev lower : ℕ → List ℕ → List ℕ
lower n marks = map (λ mark. mark - n) (filter (nat_le n) marks)

module _ (n : ℕ) (cycle : List (List ℕ)) where
  mutual
    pub met-shift : (f : FormulaTree) → met cycle (shift n f) ≡ met (lowered n cycle) f
    met-shift True = refl
    met-shift False = refl
    met-shift (Inf set false) = any-map_alike (is_in (set + n)) (is_in set) (lower n) (is_in-lowered n set) cycle
    met-shift (Inf set true) = any-map_alike (λ marks. not (is_in (set + n) marks)) (λ marks. not (is_in set marks)) (lower n) (λ marks. ap not (is_in-lowered n set marks)) cycle
    met-shift (Fin set false) = all-map_alike (λ marks. not (is_in (set + n) marks)) (λ marks. not (is_in set marks)) (lower n) (λ marks. ap not (is_in-lowered n set marks)) cycle
    met-shift (Fin set true) = all-map_alike (is_in (set + n)) (is_in set) (lower n) (is_in-lowered n set) cycle
    met-shift (And a b cs) = ap (λ x. x && (met cycle (shift n b) && all_met cycle (shifts n cs))) (met-shift a)
        ∙ ap (λ x. met (lowered n cycle) a && x) (ap (λ x. x && all_met cycle (shifts n cs)) (met-shift b) ∙ ap (λ x. met (lowered n cycle) b && x) (all_met-shifts cs))
    met-shift (Or a b cs) = ap (λ x. x || (met cycle (shift n b) || some_met cycle (shifts n cs))) (met-shift a)
        ∙ ap (λ x. met (lowered n cycle) a || x) (ap (λ x. x || some_met cycle (shifts n cs)) (met-shift b) ∙ ap (λ x. met (lowered n cycle) b || x) (some_met-shifts cs))

    all_met-shifts : (fs : FormulaTrees) → all_met cycle (shifts n fs) ≡ all_met (lowered n cycle) fs
    all_met-shifts none = refl
    all_met-shifts (more f fs) = ap (λ x. x && all_met cycle (shifts n fs)) (met-shift f) ∙ ap (λ x. met (lowered n cycle) f && x) (all_met-shifts fs)

    some_met-shifts : (fs : FormulaTrees) → some_met cycle (shifts n fs) ≡ some_met (lowered n cycle) fs
    some_met-shifts none = refl
    some_met-shifts (more f fs) = ap (λ x. x || some_met cycle (shifts n fs)) (met-shift f) ∙ ap (λ x. met (lowered n cycle) f || x) (some_met-shifts fs)

-- marks that are raised and lowered again are the same
lower-raise : (n : ℕ) (marks : List ℕ) → map (λ mark. mark - n) (filter (nat_le n) (map (λ mark. mark + n) marks)) ≡ marks
lower-raise n [] = refl
lower-raise n (mark ∷ marks) =
    let kept : nat_le n (mark + n) ≡ true = le-leb n (mark + n) (omega arith) in
    let same : (mark + n) - n ≡ mark = omega arith in
    rw (kept, same) (ap (λ ms. mark ∷ ms) (lower-raise n marks))

pub lowered-raised : (n : ℕ) (cycle : List (List ℕ)) → lowered n (raised n cycle) ≡ cycle
lowered-raised n [] = refl
lowered-raised n (marks ∷ cycle) = ap (λ m. m ∷ lowered n (raised n cycle)) (lower-raise n marks) ∙ ap (λ c. marks ∷ c) (lowered-raised n cycle)

pub met-raised : (n : ℕ) (cycle : List (List ℕ)) (f : FormulaTree) → met (raised n cycle) (shift n f) ≡ met cycle f
met-raised n cycle f = met-shift n (raised n cycle) f ∙ ap (λ c. met c f) (lowered-raised n cycle)
