-- Lists in order of their numbers, split number by number.
use Rattle.aut_base.proofs.lists.AllByRecursion.{AllByRecursion-weaker}
use Rattle.aut_base.proofs.order.Ordered.{At, Pairs, Under, all_kept, filter_by_one, flat_map_same, none_kept, none_pass, pairs_weaker, under_more, under_zero}
use Rattle.aut_base.specs.Marks.{is_in}
use Rattle.hoa_reader.proofs.description.LabelsInRange.{numbers_are_below}
use Rattle.hoa_reader.specs.Described.{below}
use Rattle.hoa_reader.specs.inner.Numbers.{marks_in_order, without_repeats}
use Rattle.hoa_reader.specs.Validity.{all_differ}
use Rattle.std.proofs.Common.{◌≡◌, ◌≢◌, ◌==◌, ◌<◌, ◌≤◌, ℕ, zero, suc, Bool, true, false, not, cond, ◌&&◌, ◌||◌, List, [], ◌∷◌, ◌++◌, filter, nat_lt, refl, sym, ap, ◌∙◌, arith}
use Rattle.std.proofs.lemmas.Bool.{eqb-true, lt-ltb, ne_eqb}
use Rattle.std.proofs.lemmas.Grind.{flat_map-append}
use Rattle.std.proofs.lemmas.List.{append-nil}
use Rattle.std.specs.List.{AllByRecursion}
use Rattle.std.specs.Prelude.{flat_map}

-- a test that fails where items differ
pub all_differ_from : {X : Type 0} (same : X → X → Bool) (xs : List X) → Pairs (λ x y. same x y ≡ false) xs → all_differ same xs ≡ true
all_differ_from same [] h = refl
all_differ_from same (x ∷ xs) h = ap (λ b. not b && all_differ same xs) (none_pass (same x) xs h.0) ∙ all_differ_from same xs h.1

-- numbers that differ
other_way : (x y : ℕ) → x ≢ y → not (x == y) ≡ true
other_way x y ne = ap not (ne_eqb x y ne)

pub no_repeats : (xs : List ℕ) → Pairs (λ x y. x ≢ y) xs → without_repeats xs ≡ xs
no_repeats [] h = refl
no_repeats (x ∷ xs) h =
    let p : ℕ → Bool = λ y. not (x == y) in
    ap (λ ys. x ∷ filter p ys) (no_repeats xs h.1)
    ∙ ap (λ ys. x ∷ ys) (all_kept p xs (AllByRecursion-weaker (λ y. x ≢ y) (λ y. p y ≡ true) xs (other_way x) h.0))

by_numbers : {X : Type 0} (key : X → ℕ) (n : ℕ) (xs : List X) → Pairs (λ x y. key x ≤ key y) xs → flat_map (λ q. At key q xs) (below n) ≡ Under key n xs
by_numbers key zero xs h = sym (under_zero key xs)
by_numbers key (suc n) xs h =
    flat_map-append (λ q. At key q xs) (below n) (n ∷ [])
    ∙ (ap (λ ys. ys ++ (At key n xs ++ [])) (by_numbers key n xs h) ∙ (ap (λ ys. Under key n xs ++ ys) (append-nil (At key n xs)) ∙ under_more key n xs h))

-- a list in order of numbers below n is the concatenation, number by number, of its items of that number
pub number_by_number : {X : Type 0} (key : X → ℕ) (n : ℕ) (xs : List X) → Pairs (λ x y. key x ≤ key y) xs → AllByRecursion (λ x. key x < n) xs
    → flat_map (λ q. filter (λ x. key x == q) xs) (below n) ≡ xs
number_by_number key n xs h all =
    by_numbers key n xs h ∙ all_kept (λ x. nat_lt (key x) n) xs (AllByRecursion-weaker (λ x. key x < n) (λ x. nat_lt (key x) n ≡ true) xs (λ x l. lt-ltb (key x) n l) all)

one_at : (m q : ℕ) (ms : List ℕ) (b : Bool) → (m == q) ≡ b → AllByRecursion (λ y. m < y) ms → cond (is_in q ms) (q ∷ []) [] ≡ At (λ x. x) q ms
    → cond (b || is_in q ms) (q ∷ []) [] ≡ cond b (m ∷ At (λ x. x) q ms) (At (λ x. x) q ms)
one_at m q ms true e h ih =
    let same : m ≡ q = eqb-true m q e in
    sym (ap (λ ys. m ∷ ys) (none_kept (λ x. x == q) ms (AllByRecursion-weaker (λ y. m < y) (λ y. (y == q) ≡ false) ms (λ y l. ne_eqb y q (λ f. omega (arith, l, same, f))) h)) ∙ ap (λ x. x ∷ []) same)
one_at m q ms false e h ih = ih

one_mark : (q : ℕ) (marks : List ℕ) → Pairs (λ x y. x < y) marks → cond (is_in q marks) (q ∷ []) [] ≡ At (λ x. x) q marks
one_mark q [] h = refl
one_mark q (m ∷ ms) h = one_at m q ms (m == q) refl h.0 (one_mark q ms h.1)

pub in_order_already : (sets : ℕ) (marks : List ℕ) → Pairs (λ x y. x < y) marks → AllByRecursion (λ x. x < sets) marks → marks_in_order sets marks ≡ marks
in_order_already sets marks h all =
    filter_by_one (λ q. is_in q marks) (below sets)
    ∙ (flat_map_same (λ q. cond (is_in q marks) (q ∷ []) []) (λ q. At (λ x. x) q marks) (below sets)
    (AllByRecursion-weaker (λ q. q < sets) (λ q. cond (is_in q marks) (q ∷ []) [] ≡ At (λ x. x) q marks) (below sets) (λ q l. one_mark q marks h) (numbers_are_below sets))
    ∙ number_by_number (λ x. x) sets marks (pairs_weaker (λ x y. x < y) (λ x y. x ≤ y) marks (λ x y l. omega (arith, l)) h) all)
