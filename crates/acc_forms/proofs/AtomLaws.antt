-- Conditions without `Fin` on longer cycles, and any condition on cycles whose edges are in no acceptance set.
use Rattle.std.proofs.Common.{◌≡◌, ◌∙◌, ℕ, ◌<◌, Bool, true, false, not, ◌&&◌, ◌||◌, List, [], ◌∷◌, ◌++◌, length, refl, sym, ap, arith, ⊎_elim}
use Rattle.std.specs.List.{All, list_any, list_all}
use Rattle.std.proofs.lemmas.Bool.{true≢false, and_parts, and_from, or_parts, or_cases, or_left, or_right}
use Rattle.std.proofs.lemmas.List.Elements.{All-head, All-tail}
use Rattle.aut_base.proofs.lists.ListTests.{any-longer}
use Rattle.aut_base.specs.Formula.{FormulaTree, FormulaTrees, True, False, Inf, Fin, And, Or, none, more, met, all_met, some_met}
use Rattle.aut_base.specs.Marks.{is_in}
use Rattle.acc_forms.specs.Atoms.{has_fin, some_fin}
use Rattle.aut_base.proofs.numbers.Truth.{and-true, or-false}
use Rattle.std.proofs.Math.Bool.{and_self, or_self}

module _ (cycle edges : List (List ℕ)) where
  mutual
    pub met-longer : (f : FormulaTree) → has_fin f ≡ false → met cycle f ≡ true → met (cycle ++ edges) f ≡ true
    met-longer True none_in holds = refl
    met-longer False none_in holds = holds
    met-longer (Inf set false) none_in holds = any-longer (is_in set) cycle edges holds
    met-longer (Inf set true) none_in holds = any-longer (λ marks. not (is_in set marks)) cycle edges holds
    met-longer (Fin set neg) none_in holds = absurd (true≢false none_in)
    met-longer (And a b cs) none_in holds =
        let first = or_parts (has_fin a) (has_fin b || some_fin cs) none_in in
        let second = or_parts (has_fin b) (some_fin cs) first.1 in
        let one = and_parts (met cycle a) (met cycle b && all_met cycle cs) holds in
        let two = and_parts (met cycle b) (all_met cycle cs) one.1 in
        and_from _ _ (met-longer a first.0 one.0) (and_from _ _ (met-longer b second.0 two.0) (all_met-longer cs second.1 two.1))
    met-longer (Or a b cs) none_in holds =
        let first = or_parts (has_fin a) (has_fin b || some_fin cs) none_in in
        let second = or_parts (has_fin b) (some_fin cs) first.1 in
        ⊎_elim
        (λ one. or_left _ _ (met-longer a first.0 one))
        (λ rest. or_right (met (cycle ++ edges) a) _
        (⊎_elim
        (λ two. or_left _ _ (met-longer b second.0 two))
        (λ others. or_right (met (cycle ++ edges) b) _ (some_met-longer cs second.1 others))
        (or_cases (met cycle b) (some_met cycle cs) rest)))
        (or_cases (met cycle a) (met cycle b || some_met cycle cs) holds)

    all_met-longer : (fs : FormulaTrees) → some_fin fs ≡ false → all_met cycle fs ≡ true → all_met (cycle ++ edges) fs ≡ true
    all_met-longer none none_in holds = refl
    all_met-longer (more f fs) none_in holds =
        let parts = or_parts (has_fin f) (some_fin fs) none_in in
        let both = and_parts (met cycle f) (all_met cycle fs) holds in
        and_from _ _ (met-longer f parts.0 both.0) (all_met-longer fs parts.1 both.1)

    some_met-longer : (fs : FormulaTrees) → some_fin fs ≡ false → some_met cycle fs ≡ true → some_met (cycle ++ edges) fs ≡ true
    some_met-longer none none_in holds = holds
    some_met-longer (more f fs) none_in holds =
        let parts = or_parts (has_fin f) (some_fin fs) none_in in
        ⊎_elim
        (λ one. or_left _ _ (met-longer f parts.0 one))
        (λ rest. or_right (met (cycle ++ edges) f) _ (some_met-longer fs parts.1 rest))
        (or_cases (met cycle f) (some_met cycle fs) holds)

-- a fold of a test over a list of empty marks is the test of empty marks, where the operation is idempotent
over-empty : (op : Bool → Bool → Bool) (over : List (List ℕ) → Bool) (p : List ℕ → Bool) → ((marks : List ℕ) (cycle : List (List ℕ)) → over (marks ∷ cycle) ≡ op (p marks) (over cycle))
    → op (p []) (over []) ≡ p [] → op (p []) (p []) ≡ p [] → (cycle : List (List ℕ)) → 0 < length cycle → All (λ marks. marks ≡ []) cycle → over cycle ≡ p []
over-empty op over p step once twice [] some empty = absurd (omega arith)
over-empty op over p step once twice (m ∷ []) some empty = step m [] ∙ ap (λ marks. op (p marks) (over [])) (All-head (λ marks. marks ≡ []) m [] empty) ∙ once
over-empty op over p step once twice (m ∷ n ∷ ms) some empty =
    step m (n ∷ ms)
    ∙ ap (λ marks. op (p marks) (over (n ∷ ms))) (All-head (λ marks. marks ≡ []) m (n ∷ ms) empty)
    ∙ ap (op (p [])) (over-empty op over p step once twice (n ∷ ms) (omega arith) (All-tail (λ marks. marks ≡ []) m (n ∷ ms) empty))
    ∙ twice

any-empty : (p : List ℕ → Bool) (cycle : List (List ℕ)) → 0 < length cycle → All (λ marks. marks ≡ []) cycle → list_any p cycle ≡ p []
any-empty p = over-empty ◌||◌ (list_any p) p (λ _ _. refl) (or-false (p [])) (or_self (p []))

all-empty : (p : List ℕ → Bool) (cycle : List (List ℕ)) → 0 < length cycle → All (λ marks. marks ≡ []) cycle → list_all p cycle ≡ p []
all-empty p = over-empty ◌&&◌ (list_all p) p (λ _ _. refl) (and-true (p [])) (and_self (p []))

module _ (cycle : List (List ℕ)) (some : 0 < length cycle) (empty : All (λ marks. marks ≡ []) cycle) where
  mutual
    pub met-empty : (f : FormulaTree) → met ([] ∷ []) f ≡ met cycle f
    met-empty True = refl
    met-empty False = refl
    met-empty (Inf set false) = sym (any-empty (is_in set) cycle some empty)
    met-empty (Inf set true) = sym (any-empty (λ marks. not (is_in set marks)) cycle some empty)
    met-empty (Fin set false) = sym (all-empty (λ marks. not (is_in set marks)) cycle some empty)
    met-empty (Fin set true) = sym (all-empty (is_in set) cycle some empty)
    met-empty (And a b cs) = ap (λ x. x && (met ([] ∷ []) b && all_met ([] ∷ []) cs)) (met-empty a)
        ∙ ap (λ x. met cycle a && x) (ap (λ x. x && all_met ([] ∷ []) cs) (met-empty b) ∙ ap (λ x. met cycle b && x) (all_met-empty cs))
    met-empty (Or a b cs) = ap (λ x. x || (met ([] ∷ []) b || some_met ([] ∷ []) cs)) (met-empty a)
        ∙ ap (λ x. met cycle a || x) (ap (λ x. x || some_met ([] ∷ []) cs) (met-empty b) ∙ ap (λ x. met cycle b || x) (some_met-empty cs))

    all_met-empty : (fs : FormulaTrees) → all_met ([] ∷ []) fs ≡ all_met cycle fs
    all_met-empty none = refl
    all_met-empty (more f fs) = ap (λ x. x && all_met ([] ∷ []) fs) (met-empty f) ∙ ap (λ x. met cycle f && x) (all_met-empty fs)

    some_met-empty : (fs : FormulaTrees) → some_met ([] ∷ []) fs ≡ some_met cycle fs
    some_met-empty none = refl
    some_met-empty (more f fs) = ap (λ x. x || some_met ([] ∷ []) fs) (met-empty f) ∙ ap (λ x. met cycle f || x) (some_met-empty fs)
