-- Conditions on cycles with a truth value substituted for a `Fin`, and on cycles with fewer edges.
use Rattle.std.proofs.Common.{if◌then◌else◌, ◌≡◌, ◌∙◌, ℕ, ◌+◌, ◌<◌, ◌≤◌, Bool, true, false, not, ◌&&◌, ◌||◌, List, [], ◌∷◌, nat_eq, inl, inr, refl, sym, ap, subst, arith, ⊎_elim}
use Rattle.std.proofs.lemmas.Bool.{true≢false, and_from, and_parts, eq-eqb, eqb-true, or_cases, or_left, or_right}
use Rattle.std.specs.List.{list_all, list_any}
use Rattle.aut_base.proofs.numbers.Truth.{not_not}
use Rattle.aut_base.specs.Formula.{FormulaTree, FormulaTrees, True, False, Inf, Fin, And, Or, none, more, met, all_met, some_met}
use Rattle.aut_base.specs.Marks.{is_in}
use Rattle.lasso_emptiness.specs.inner.Edges.{on_side}
use Rattle.lasso_emptiness.specs.inner.Judged.{all_fins, fin_count, has_side, is_same_side, some_has_side}
use Rattle.lasso_emptiness.specs.inner.Taken.{all_taken, substituted}

-- `Inf` and `Fin` by their set literal
pub met-Inf : (cycle : List (List ℕ)) (set : ℕ) (neg : Bool) → met cycle (Inf set neg) ≡ list_any (on_side set neg) cycle
met-Inf cycle set true = refl
met-Inf cycle set false = refl

all_none : {A : Type 0} (p q : A → Bool) → ((x : A) → p x ≡ not (q x)) → (xs : List A) → list_all p xs ≡ not (list_any q xs)
all_none p q opposite [] = refl
all_none p q opposite (x ∷ xs) = ap (λ b. b && list_all p xs) (opposite x) ∙ ap (λ b. not (q x) && b) (all_none p q opposite xs) ∙ de_morgan (q x) (list_any q xs)
  where
    de_morgan : (a b : Bool) → (not a && not b) ≡ not (a || b)
    de_morgan true b = refl
    de_morgan false b = refl

pub met-Fin : (cycle : List (List ℕ)) (set : ℕ) (neg : Bool) → met cycle (Fin set neg) ≡ not (list_any (on_side set neg) cycle)
met-Fin cycle set true = all_none (is_in set) (λ marks. not (is_in set marks)) (λ marks. not_not (is_in set marks)) cycle
met-Fin cycle set false = all_none (λ marks. not (is_in set marks)) (is_in set) (λ marks. refl) cycle

same_set : (a b : ℕ) (c d : Bool) → is_same_side a c b d ≡ true → (a ≡ b) × (c ≡ d)
same_set a b true true is = let both = and_parts (nat_eq a b) true is in (eqb-true a b both.0, refl)
same_set a b false false is = let both = and_parts (nat_eq a b) true is in (eqb-true a b both.0, refl)
same_set a b true false is = let both = and_parts (nat_eq a b) false is in absurd (true≢false (sym both.1))
same_set a b false true is = let both = and_parts (nat_eq a b) false is in absurd (true≢false (sym both.1))

module _ (cycle : List (List ℕ)) (set : ℕ) (neg value : Bool) where
  -- substituting the truth that a `Fin` has on the cycle changes no truth
  met-taken_fin : (other : ℕ) (neg' : Bool) → list_any (on_side set neg) cycle ≡ not value → met cycle (substituted set neg value (Fin other neg')) ≡ met cycle (Fin other neg')
  met-taken_fin other neg' decided = go (is_same_side set neg other neg') refl
    where
      go : (b : Bool) → is_same_side set neg other neg' ≡ b → met cycle (if b then (if value then True else False) else Fin other neg') ≡ met cycle (Fin other neg')
      go false is = refl
      go true is =
          let same = same_set set other neg neg' is in
          truth value ∙ sym (ap not decided) ∙ sym (met-Fin cycle set neg) ∙ ap (λ s. met cycle (Fin s neg)) same.0 ∙ ap (λ n. met cycle (Fin other n)) same.1
        where
          truth : (v : Bool) → met cycle (if v then True else False) ≡ not (not v)
          truth true = refl
          truth false = refl

  mutual
    pub met-taken : (f : FormulaTree) → list_any (on_side set neg) cycle ≡ not value → met cycle (substituted set neg value f) ≡ met cycle f
    met-taken True decided = refl
    met-taken False decided = refl
    met-taken (Inf other neg') decided = refl
    met-taken (Fin other neg') decided = met-taken_fin other neg' decided
    met-taken (And a b cs) decided =
        ap (λ x. x && (met cycle (substituted set neg value b) && all_met cycle (all_taken set neg value cs))) (met-taken a decided)
        ∙ ap (λ x. met cycle a && x) (ap (λ x. x && all_met cycle (all_taken set neg value cs)) (met-taken b decided) ∙ ap (λ x. met cycle b && x) (all_met-taken cs decided))
    met-taken (Or a b cs) decided =
        ap (λ x. x || (met cycle (substituted set neg value b) || some_met cycle (all_taken set neg value cs))) (met-taken a decided)
        ∙ ap (λ x. met cycle a || x) (ap (λ x. x || some_met cycle (all_taken set neg value cs)) (met-taken b decided) ∙ ap (λ x. met cycle b || x) (some_met-taken cs decided))

    all_met-taken : (fs : FormulaTrees) → list_any (on_side set neg) cycle ≡ not value → all_met cycle (all_taken set neg value fs) ≡ all_met cycle fs
    all_met-taken none decided = refl
    all_met-taken (more f fs) decided = ap (λ x. x && all_met cycle (all_taken set neg value fs)) (met-taken f decided) ∙ ap (λ x. met cycle f && x) (all_met-taken fs decided)

    some_met-taken : (fs : FormulaTrees) → list_any (on_side set neg) cycle ≡ not value → some_met cycle (all_taken set neg value fs) ≡ some_met cycle fs
    some_met-taken none decided = refl
    some_met-taken (more f fs) decided = ap (λ x. x || some_met cycle (all_taken set neg value fs)) (met-taken f decided) ∙ ap (λ x. met cycle f || x) (some_met-taken fs decided)

-- a cycle that meets the condition with a `Fin` taken as false meets it
module _ (cycle : List (List ℕ)) (set : ℕ) (neg : Bool) where
  met-denied_fin : (other : ℕ) (neg' : Bool) → met cycle (substituted set neg false (Fin other neg')) ≡ true → met cycle (Fin other neg') ≡ true
  met-denied_fin other neg' holds = go (is_same_side set neg other neg') holds
    where
      go : (b : Bool) → met cycle (if b then False else Fin other neg') ≡ true → met cycle (Fin other neg') ≡ true
      go false holds = holds
      go true holds = absurd (true≢false (sym holds))

  mutual
    pub met-denied : (f : FormulaTree) → met cycle (substituted set neg false f) ≡ true → met cycle f ≡ true
    met-denied True holds = refl
    met-denied False holds = holds
    met-denied (Inf other neg') holds = holds
    met-denied (Fin other neg') holds = met-denied_fin other neg' holds
    met-denied (And a b cs) holds =
        let one = and_parts (met cycle (substituted set neg false a)) (met cycle (substituted set neg false b) && all_met cycle (all_taken set neg false cs)) holds in
        let two = and_parts (met cycle (substituted set neg false b)) (all_met cycle (all_taken set neg false cs)) one.1 in
        and_from _ _ (met-denied a one.0) (and_from _ _ (met-denied b two.0) (all_met-denied cs two.1))
    met-denied (Or a b cs) holds =
        ⊎_elim
        (λ one. or_left _ _ (met-denied a one))
        (λ rest. or_right (met cycle a) _
        (⊎_elim
        (λ two. or_left _ _ (met-denied b two))
        (λ others. or_right (met cycle b) _ (some_met-denied cs others))
        (or_cases (met cycle (substituted set neg false b)) (some_met cycle (all_taken set neg false cs)) rest)))
        (or_cases (met cycle (substituted set neg false a)) (met cycle (substituted set neg false b) || some_met cycle (all_taken set neg false cs)) holds)

    all_met-denied : (fs : FormulaTrees) → all_met cycle (all_taken set neg false fs) ≡ true → all_met cycle fs ≡ true
    all_met-denied none holds = refl
    all_met-denied (more f fs) holds =
        let both = and_parts (met cycle (substituted set neg false f)) (all_met cycle (all_taken set neg false fs)) holds in
        and_from _ _ (met-denied f both.0) (all_met-denied fs both.1)

    some_met-denied : (fs : FormulaTrees) → some_met cycle (all_taken set neg false fs) ≡ true → some_met cycle fs ≡ true
    some_met-denied none holds = holds
    some_met-denied (more f fs) holds =
        ⊎_elim
        (λ one. or_left _ _ (met-denied f one))
        (λ rest. or_right (met cycle f) _ (some_met-denied fs rest))
        (or_cases (met cycle (substituted set neg false f)) (some_met cycle (all_taken set neg false fs)) holds)

less_of_three : (x y z x' y' z' : ℕ) (p q r : Bool) → x' ≤ x → y' ≤ y → z' ≤ z → (p ≡ true → x' < x) → (q ≡ true → y' < y) → (r ≡ true → z' < z) → (p || (q || r)) ≡ true → x' + (y' + z') < x + (y + z)
less_of_three x y z x' y' z' true q r a b c first second third some = let less = first refl in omega arith
less_of_three x y z x' y' z' false true r a b c first second third some = let less = second refl in omega arith
less_of_three x y z x' y' z' false false true a b c first second third some = let less = third refl in omega arith
less_of_three x y z x' y' z' false false false a b c first second third some = absurd (true≢false (sym some))

-- substitution leaves fewer `Fin`
module _ (set : ℕ) (neg value : Bool) where
  fins-value : (v : Bool) → fin_count (if v then True else False) ≡ 0
  fins-value true = refl
  fins-value false = refl

  mutual
    pub fins-taken_most : (f : FormulaTree) → fin_count (substituted set neg value f) ≤ fin_count f
    fins-taken_most True = omega arith
    fins-taken_most False = omega arith
    fins-taken_most (Inf other neg') = omega arith
    fins-taken_most (Fin other neg') = go (is_same_side set neg other neg')
      where
        go : (b : Bool) → fin_count (if b then (if value then True else False) else Fin other neg') ≤ 1
        go true = let none = fins-value value in omega arith
        go false = omega arith
    fins-taken_most (And a b cs) = let one = fins-taken_most a in let two = fins-taken_most b in let rest = all_fins-taken_most cs in omega arith
    fins-taken_most (Or a b cs) = let one = fins-taken_most a in let two = fins-taken_most b in let rest = all_fins-taken_most cs in omega arith

    all_fins-taken_most : (fs : FormulaTrees) → all_fins (all_taken set neg value fs) ≤ all_fins fs
    all_fins-taken_most none = omega arith
    all_fins-taken_most (more f fs) = let one = fins-taken_most f in let rest = all_fins-taken_most fs in omega arith

  mutual
    fins-taken : (f : FormulaTree) → has_side set neg f ≡ true → fin_count (substituted set neg value f) < fin_count f
    fins-taken True has = absurd (true≢false (sym has))
    fins-taken False has = absurd (true≢false (sym has))
    fins-taken (Inf other neg') has = absurd (true≢false (sym has))
    fins-taken (Fin other neg') has =
        let none = fins-value value in
        let gone : fin_count (substituted set neg value (Fin other neg')) ≡ fin_count (if value then True else False) =
        ap (λ b. fin_count (if b then (if value then True else False) else Fin other neg')) has in
        omega arith
    fins-taken (And a b cs) has = less_of_three _ _ _ _ _ _ _ _ _ (fins-taken_most a) (fins-taken_most b) (all_fins-taken_most cs) (fins-taken a) (fins-taken b) (all_fins-taken cs) has
    fins-taken (Or a b cs) has = less_of_three _ _ _ _ _ _ _ _ _ (fins-taken_most a) (fins-taken_most b) (all_fins-taken_most cs) (fins-taken a) (fins-taken b) (all_fins-taken cs) has

    all_fins-taken : (fs : FormulaTrees) → some_has_side set neg fs ≡ true → all_fins (all_taken set neg value fs) < all_fins fs
    all_fins-taken none has = absurd (true≢false (sym has))
    all_fins-taken (more f fs) has =
        let one = fins-taken_most f in
        let rest = all_fins-taken_most fs in
        elim (or_cases (has_side set neg f) (some_has_side set neg fs) has) [
          | inl first ↦ (let less = fins-taken f first in omega arith)
          | inr later ↦ (let less = all_fins-taken fs later in omega arith)
        ]

  pub taken_fewer : (f new : FormulaTree) → new ≡ substituted set neg value f → has_side set neg f ≡ true → fin_count new < fin_count f
  taken_fewer f new is has = subst (λ g. fin_count g < fin_count f) (sym is) (fins-taken f has)

pub has_side-Fin : (set : ℕ) (neg : Bool) → has_side set neg (Fin set neg) ≡ true
has_side-Fin set true = and_from (nat_eq set set) true (eq-eqb set set refl) refl
has_side-Fin set false = and_from (nat_eq set set) true (eq-eqb set set refl) refl
