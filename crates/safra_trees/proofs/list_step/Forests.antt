-- What nodes of a forest keep, which survive, and the oldest child that holds a state.
use Rattle.std.proofs.Common.{◌≡◌, ◌∙◌, ◌⊎◌, ◌<◌, ◌≤◌, ◌==◌, ◌&&◌, ℕ, zero, suc, Bool, true, false, not, List, [], ◌∷◌, Contains, ap, arith, inl, inr, nat_lt, refl, subst, sym}
use Rattle.std.proofs.lemmas.Bool.{and_from, and_parts, cases_Bool, cases_eq, eq-eqb, eqb-true, lt-ltb, ltb-true, not-true, not_from_false, or_from, or_parts}
use Rattle.std.specs.List.{list_any, range_with_len}
use Rattle.aut_base.proofs.lists.Members.{any_found, any_from, first_there, from_range, later_there, there_range_zero}
use Rattle.safra_trees.specs.Step.{Forest, above, ancestors, covered, is_child, retains, survives, held_by_older}

pub record IsForest (f : Forest) : Type 0 where
  pub lower : (y : ℕ) → 0 < y → y < f.size → f.parent y < y
  pub inside : (y s : ℕ) → 0 < y → y < f.size → f.holds y s ≡ true → f.holds (f.parent y) s ≡ true

pub above_same : (parent : ℕ → ℕ) (size : ℕ) → ((y : ℕ) → 0 < y → y < size → parent y < y) → (j k y : ℕ) → y ≤ j → y ≤ k → y < size → above parent j y ≡ above parent k y
above_same parent size lower zero zero y lj lk less = refl
above_same parent size lower zero (suc k) zero lj lk less = refl
above_same parent size lower zero (suc k) (suc y) lj lk less = absurd (omega (arith, lj))
above_same parent size lower (suc j) zero zero lj lk less = refl
above_same parent size lower (suc j) zero (suc y) lj lk less = absurd (omega (arith, lk))
above_same parent size lower (suc j) (suc k) zero lj lk less = refl
above_same parent size lower (suc j) (suc k) (suc y) lj lk less =
    let low : parent (suc y) < suc y = lower (suc y) (omega arith) less in
    ap (λ zs. parent (suc y) ∷ zs) (above_same parent size lower j k (parent (suc y)) (omega (arith, lj, low)) (omega (arith, lk, low)) (omega (arith, less, low)))

pub ancestors_of : (f : Forest) → IsForest f → (y : ℕ) → 0 < y → y < f.size → ancestors f y ≡ f.parent y ∷ ancestors f (f.parent y)
ancestors_of f is zero more less = absurd (omega (arith, more))
ancestors_of f is (suc y) more less =
    let low : f.parent (suc y) < suc y = is.lower (suc y) more less in
    ap (λ zs. f.parent (suc y) ∷ zs) (above_same f.parent f.size is.lower y (f.parent (suc y)) (f.parent (suc y)) (omega (arith, low)) (omega arith) (omega (arith, less, low)))

pub none_any : {X : Type 0} (p : X → Bool) (xs : List X) → ((x : X) → Contains xs x → p x ≡ false) → list_any p xs ≡ false
none_any p [] each = refl
none_any p (x ∷ xs) each = or_from (p x) (list_any p xs) (each x (first_there x xs)) (none_any p xs (λ y there. each y (later_there x xs y there)))

pub keeps_holds : (f : Forest) (y s : ℕ) → retains f y s ≡ true → f.holds y s ≡ true
keeps_holds f y s h = (and_parts (f.holds y s) (not (list_any (held_by_older f s) (y ∷ ancestors f y))) h).0

pub keeps_free : (f : Forest) (y s : ℕ) → retains f y s ≡ true → (held_by_older f s y ≡ false) × (list_any (held_by_older f s) (ancestors f y) ≡ false)
keeps_free f y s h = or_parts (held_by_older f s y) (list_any (held_by_older f s) (ancestors f y))
    (not-true (list_any (held_by_older f s) (y ∷ ancestors f y)) (and_parts (f.holds y s) (not (list_any (held_by_older f s) (y ∷ ancestors f y))) h).1)

keeps_from : (f : Forest) (y s : ℕ) → f.holds y s ≡ true → held_by_older f s y ≡ false → list_any (held_by_older f s) (ancestors f y) ≡ false → retains f y s ≡ true
keeps_from f y s h k free = and_from (f.holds y s) (not (list_any (held_by_older f s) (y ∷ ancestors f y))) h
    (not_from_false (list_any (held_by_older f s) (y ∷ ancestors f y)) (or_from (held_by_older f s y) (list_any (held_by_older f s) (ancestors f y)) k free))

-- what a node keeps, its parent keeps
pub keeps_up : (f : Forest) → IsForest f → (y s : ℕ) → 0 < y → y < f.size → retains f y s ≡ true → retains f (f.parent y) s ≡ true
keeps_up f is y s more less h =
    let free : list_any (held_by_older f s) (f.parent y ∷ ancestors f (f.parent y)) ≡ false = subst (λ ys. list_any (held_by_older f s) ys ≡ false) (ancestors_of f is y more less)
    (keeps_free f y s h).1 in
    let parts = or_parts (held_by_older f s (f.parent y)) (list_any (held_by_older f s) (ancestors f (f.parent y))) free in
    keeps_from f (f.parent y) s (is.inside y s more less (keeps_holds f y s h)) parts.0 parts.1

-- and a child keeps of it what no older one holds
pub keeps_child : (f : Forest) → IsForest f → (y s : ℕ) → 0 < y → y < f.size → f.holds y s ≡ true → held_by_older f s y ≡ false → retains f (f.parent y) s ≡ true → retains f y s ≡ true
keeps_child f is y s more less h first up =
    let parts = keeps_free f (f.parent y) s up in
    keeps_from f y s h first (subst (λ ys. list_any (held_by_older f s) ys ≡ false) (sym (ancestors_of f is y more less))
    (or_from (held_by_older f s (f.parent y)) (list_any (held_by_older f s) (ancestors f (f.parent y))) parts.0 parts.1))

pub stays_some : (f : Forest) (y : ℕ) → survives f y ≡ true → list_any (retains f y) (range_with_len 0 f.bound) ≡ true
stays_some f y h = (and_parts (list_any (retains f y) (range_with_len 0 f.bound)) (not (list_any (covered f) (ancestors f y))) h).0

pub stays_free : (f : Forest) (y : ℕ) → survives f y ≡ true → list_any (covered f) (ancestors f y) ≡ false
stays_free f y h = not-true (list_any (covered f) (ancestors f y)) (and_parts (list_any (retains f y) (range_with_len 0 f.bound)) (not (list_any (covered f) (ancestors f y))) h).1

pub stays_from : (f : Forest) (y s : ℕ) → retains f y s ≡ true → s < f.bound → list_any (covered f) (ancestors f y) ≡ false → survives f y ≡ true
stays_from f y s h less free = and_from (list_any (retains f y) (range_with_len 0 f.bound)) (not (list_any (covered f) (ancestors f y)))
    (any_from (retains f y) (range_with_len 0 f.bound) s (there_range_zero f.bound s less) h)
    (not_from_false (list_any (covered f) (ancestors f y)) free)

-- the parent of a node that survives survives
pub stays_up : (f : Forest) → IsForest f → (y : ℕ) → 0 < y → y < f.size → survives f y ≡ true → survives f (f.parent y) ≡ true
stays_up f is y more less h =
    let some = any_found (retains f y) (range_with_len 0 f.bound) (stays_some f y h) in
    let within = from_range 0 f.bound some.0 some.1 in
    let free : list_any (covered f) (f.parent y ∷ ancestors f (f.parent y)) ≡ false = subst (λ ys. list_any (covered f) ys ≡ false) (ancestors_of f is y more less) (stays_free f y h) in
    stays_from f (f.parent y) some.0 (keeps_up f is y some.0 more less some.2) (omega (arith, within.1)) (or_parts (covered f (f.parent y)) (list_any (covered f) (ancestors f (f.parent y))) free).1

-- a child that keeps a state survives where its parent survives and isn't covered
pub stays_child : (f : Forest) → IsForest f → (y s : ℕ) → 0 < y → y < f.size → retains f y s ≡ true → s < f.bound → survives f (f.parent y) ≡ true → covered f (f.parent y) ≡ false
    → survives f y ≡ true
stays_child f is y s more less h small up bare =
    stays_from f y s h small (subst (λ ys. list_any (covered f) ys ≡ false) (sym (ancestors_of f is y more less))
    (or_from (covered f (f.parent y)) (list_any (covered f) (ancestors f (f.parent y))) bare (stays_free f (f.parent y) up)))

-- the least number that passes a test
pub record Least (p : ℕ → Bool) (y : ℕ) : Type 0 where
  pub at : ℕ
  pub low : at ≤ y
  pub is : p at ≡ true
  pub none : (w : ℕ) → w < at → p w ≡ false

least_below : (p : ℕ → Bool) (k : ℕ) → Least p k ⊎ ((w : ℕ) → w < k → p w ≡ false)
least_below p zero = inr (λ w less. absurd (omega (arith, less)))
least_below p (suc k) = elim (least_below p k) [
  | inl found ↦ inl (record { at = found.at; low = omega (arith, found.low); is = found.is; none = found.none })
  | inr none ↦ (elim (cases_Bool (p k)) [
    | inl is ↦ inl (record { at = k; low = omega arith; is = is; none = none })
    | inr isnt ↦ inr (λ w less. elim (cases_eq w k) [ inl same ↦ ap p same ∙ isnt | inr other ↦ none w (omega (arith, less, other)) ])
  ])
]

pub least : (p : ℕ → Bool) (y : ℕ) → p y ≡ true → Least p y
least p y is = elim (least_below p y) [ inl found ↦ found | inr none ↦ record { at = y; low = omega arith; is = is; none = none } ]

-- of the children of x that hold q the oldest keeps it and survives, where x keeps it, survives and isn't covered
pub record Next (f : Forest) (x q y : ℕ) : Type 0 where
  pub name : ℕ
  pub low : name ≤ y
  pub more : 0 < name
  pub parent : f.parent name ≡ x
  pub keeps_it : retains f name q ≡ true
  pub stays_on : survives f name ≡ true

pub next_child : (f : Forest) → IsForest f → (x q y : ℕ) → 0 < y → y < f.size → f.parent y ≡ x → f.holds y q ≡ true → retains f x q ≡ true → q < f.bound → survives f x ≡ true
    → covered f x ≡ false → Next f x q y
next_child f is x q y more less child holds kept small on bare =
    let p : ℕ → Bool = λ z. is_child f x z && f.holds z q in
    let first = least p y (and_from (is_child f x y) (f.holds y q) (and_from (nat_lt 0 y) (f.parent y == x) (lt-ltb 0 y more) (eq-eqb (f.parent y) x child)) holds) in
    let z = first.at in
    let parts = and_parts (is_child f x z) (f.holds z q) first.is in
    let ones = and_parts (nat_lt 0 z) (f.parent z == x) parts.0 in
    let over : 0 < z = ltb-true 0 z ones.0 in
    let up : f.parent z ≡ x = eqb-true (f.parent z) x ones.1 in
    let within : z < f.size = omega (arith, first.low, less) in
    let free : held_by_older f q z ≡ false = none_any (λ w. is_child f (f.parent z) w && f.holds w q) (range_with_len 0 z)
    (λ w there. subst (λ v. (is_child f v w && f.holds w q) ≡ false) (sym up) (first.none w (omega (arith, (from_range 0 z w there).1)))) in
    let held : retains f z q ≡ true = keeps_child f is z q over within parts.1 free (subst (λ v. retains f v q ≡ true) (sym up) kept) in
    record {
      name = z;
      low = first.low;
      more = over;
      parent = up;
      keeps_it = held;
      stays_on = stays_child f is z q over within held small (subst (λ v. survives f v ≡ true) (sym up) on) (subst (λ v. covered f v ≡ false) (sym up) bare);
    }
