-- Ordered lists, and the items of a list that pass a test.
use Rattle.aut_base.proofs.lists.AllByRecursion.{AllByRecursion-from_map, AllByRecursion-weaker}
use Rattle.aut_base.proofs.numbers.Truth.{or_comm}
use Rattle.std.proofs.Common.{All, AllPairs, Bool, List, [], ap, arith, cond, false, filter, get_or, length, map, nat_lt, refl, suc, sym, true, zero}
use Rattle.std.proofs.Common.{ℕ, ◌&&◌, ◌++◌, ◌+◌, ◌<◌, ◌==◌, ◌||◌, ◌∙◌, ◌∷◌, ◌≡◌, ◌≤◌}
use Rattle.std.proofs.lemmas.Bool.{eqb-false, eqb-true, lt-ltb, le-ltb, ltb-true, ltb-false, ne_eqb}
use Rattle.std.proofs.lemmas.List.{map-append}
use Rattle.std.proofs.lemmas.List.Elements.{All-cons, All-tail, recursion_from_All}
use Rattle.std.specs.List.{AllByRecursion, list_all, list_any, range_with_len}
use Rattle.std.specs.Prelude.{flat_map}

-- each item is in the relation to every later one
abbrev pub Pairs : {X : Type 0} → (X → X → Type 0) → List X → Type 0
Pairs R [] = Unit {0}
Pairs R (x ∷ xs) = AllByRecursion (R x) xs × Pairs R xs

pub pairs_from : {X : Type 0} (R : X → X → Type 0) (xs : List X) → AllPairs R xs → Pairs R xs
pairs_from R [] h = tt
pairs_from R (x ∷ xs) h = (
  recursion_from_All (R x) xs (λ k d l. h zero (suc k) d (omega arith) (omega (arith, l))),
  pairs_from R xs (λ i j d l m. h (suc i) (suc j) d (omega (arith, l)) (omega (arith, m))),
)

pub pairs_weaker : {X : Type 0} (R S : X → X → Type 0) (xs : List X) → ((x y : X) → R x y → S x y) → Pairs R xs → Pairs S xs
pairs_weaker R S [] f h = tt
pairs_weaker R S (x ∷ xs) f h = (AllByRecursion-weaker (R x) (S x) xs (f x) h.0, pairs_weaker R S xs f h.1)

pub pairs_unmap : {X Y : Type 0} (R : Y → Y → Type 0) (f : X → Y) (xs : List X) → Pairs R (map f xs) → Pairs (λ x y. R (f x) (f y)) xs
pairs_unmap R f [] h = tt
pairs_unmap R f (x ∷ xs) h = (AllByRecursion-from_map (R (f x)) f xs h.0, pairs_unmap R f xs h.1)

pub none_kept : {X : Type 0} (p : X → Bool) (xs : List X) → AllByRecursion (λ x. p x ≡ false) xs → filter p xs ≡ []
none_kept p [] all = refl
none_kept p (x ∷ xs) all = ap (λ b. cond b (x ∷ filter p xs) (filter p xs)) all.0 ∙ none_kept p xs all.1

pub all_kept : {X : Type 0} (p : X → Bool) (xs : List X) → AllByRecursion (λ x. p x ≡ true) xs → filter p xs ≡ xs
all_kept p [] all = refl
all_kept p (x ∷ xs) all = ap (λ b. cond b (x ∷ filter p xs) (filter p xs)) all.0 ∙ ap (λ ys. x ∷ ys) (all_kept p xs all.1)

pub every_passes : {X : Type 0} (p : X → Bool) (xs : List X) → AllByRecursion (λ x. p x ≡ true) xs → list_all p xs ≡ true
every_passes p [] all = refl
every_passes p (x ∷ xs) all = ap (λ b. b && list_all p xs) all.0 ∙ every_passes p xs all.1

pub none_pass : {X : Type 0} (p : X → Bool) (xs : List X) → AllByRecursion (λ x. p x ≡ false) xs → list_any p xs ≡ false
none_pass p [] all = refl
none_pass p (x ∷ xs) all = ap (λ b. b || list_any p xs) all.0 ∙ none_pass p xs all.1

-- m is below n + 1 where it is below n or is n
lt_more : (m n : ℕ) (b c : Bool) → nat_lt m n ≡ b → (m == n) ≡ c → nat_lt m (suc n) ≡ (b || c)
lt_more m n true c p q = lt-ltb m (suc n) (omega (arith, ltb-true m n p))
lt_more m n false true p q = lt-ltb m (suc n) (omega (arith, eqb-true m n q))
lt_more m n false false p q = le-ltb m (suc n) (omega (arith, ltb-false m n p, eqb-false m n q))

-- the items with a key below n, and those with the key n
abbrev pub Under : {X : Type 0} → (X → ℕ) → ℕ → List X → List X
Under key n = filter (λ x. nat_lt (key x) n)

abbrev pub At : {X : Type 0} → (X → ℕ) → ℕ → List X → List X
At key n = filter (λ x. key x == n)

none_under : {X : Type 0} (key : X → ℕ) (n : ℕ) (x : X) (xs : List X) → n ≤ key x → AllByRecursion (λ y. key x ≤ key y) xs → Under key n xs ≡ []
none_under key n x xs l h = none_kept (λ y. nat_lt (key y) n) xs (AllByRecursion-weaker (λ y. key x ≤ key y) (λ y. nat_lt (key y) n ≡ false) xs (λ y k. le-ltb (key y) n (omega (arith, k))) h)

counted_up_to_next : {X : Type 0} (key : X → ℕ) (n : ℕ) (x : X) (xs : List X) (b c : Bool) → nat_lt (key x) n ≡ b → (key x == n) ≡ c → AllByRecursion (λ y. key x ≤ key y) xs
    → Under key n xs ++ At key n xs ≡ Under key (suc n) xs
    → cond b (x ∷ Under key n xs) (Under key n xs) ++ cond c (x ∷ At key n xs) (At key n xs) ≡ cond (b || c) (x ∷ Under key (suc n) xs) (Under key (suc n) xs)
counted_up_to_next key n x xs true true p q h ih = absurd (omega (arith, ltb-true (key x) n p, eqb-true (key x) n q))
counted_up_to_next key n x xs true false p q h ih = ap (λ ys. x ∷ ys) ih
counted_up_to_next key n x xs false true p q h ih =
    let none : Under key n xs ≡ [] = none_under key n x xs (ltb-false (key x) n p) h in
    ap (λ ys. ys ++ (x ∷ At key n xs)) none ∙ ap (λ ys. x ∷ ys) (sym (ap (λ ys. ys ++ At key n xs) none) ∙ ih)
counted_up_to_next key n x xs false false p q h ih = ih

pub under_more : {X : Type 0} (key : X → ℕ) (n : ℕ) (xs : List X) → Pairs (λ x y. key x ≤ key y) xs → Under key n xs ++ At key n xs ≡ Under key (suc n) xs
under_more key n [] h = refl
under_more key n (x ∷ xs) h =
    counted_up_to_next key n x xs (nat_lt (key x) n) (key x == n) refl refl h.0 (under_more key n xs h.1)
    ∙ ap (λ b. cond b (x ∷ Under key (suc n) xs) (Under key (suc n) xs)) (sym (lt_more (key x) n (nat_lt (key x) n) (key x == n) refl refl))

pub under_zero : {X : Type 0} (key : X → ℕ) (xs : List X) → Under key zero xs ≡ []
under_zero key [] = refl
under_zero key (x ∷ xs) = ap (λ b. cond b (x ∷ Under key zero xs) (Under key zero xs)) (le-ltb (key x) zero (omega arith)) ∙ under_zero key xs

pub flat_map_same : {X Y : Type 0} (f g : X → List Y) (xs : List X) → AllByRecursion (λ x. f x ≡ g x) xs → flat_map f xs ≡ flat_map g xs
flat_map_same f g [] all = refl
flat_map_same f g (x ∷ xs) all = ap (λ ys. ys ++ flat_map f xs) all.0 ∙ ap (λ ys. g x ++ ys) (flat_map_same f g xs all.1)

pub map_flat_map : {X Y Z : Type 0} (f : Y → Z) (g : X → List Y) (xs : List X) → flat_map (λ x. map f (g x)) xs ≡ map f (flat_map g xs)
map_flat_map f g [] = refl
map_flat_map f g (x ∷ xs) = ap (λ ys. map f (g x) ++ ys) (map_flat_map f g xs) ∙ sym (map-append f (g x) (flat_map g xs))

-- the items of a list that pass, one item after another
one_kept : {X : Type 0} (x : X) (b : Bool) (xs : List X) → cond b (x ∷ xs) xs ≡ cond b (x ∷ []) [] ++ xs
one_kept x true xs = refl
one_kept x false xs = refl

pub filter_by_one : {X : Type 0} (p : X → Bool) (xs : List X) → filter p xs ≡ flat_map (λ x. cond (p x) (x ∷ []) []) xs
filter_by_one p [] = refl
filter_by_one p (x ∷ xs) = one_kept x (p x) (filter p xs) ∙ ap (λ ys. cond (p x) (x ∷ []) [] ++ ys) (filter_by_one p xs)

-- the bounds of a range
pub range_within : (i n : ℕ) → AllByRecursion (λ x. (i ≤ x) × (x < i + n)) (range_with_len i n)
range_within i zero = tt
range_within i (suc n) = (
  (omega arith, omega arith),
  AllByRecursion-weaker (λ x. (i + 1 ≤ x) × (x < i + 1 + n)) (λ x. (i ≤ x) × (x < i + suc n)) (range_with_len (i + 1) n)
      (λ x h. (omega (arith, h), omega (arith, h))) (range_within (i + 1) n),
)

pub range_rises : (i n : ℕ) → Pairs (λ x y. x < y) (range_with_len i n)
range_rises i zero = tt
range_rises i (suc n) =
    (AllByRecursion-weaker (λ x. (i + 1 ≤ x) × (x < i + 1 + n)) (λ x. i < x) (range_with_len (i + 1) n) (λ x h. omega (arith, h)) (range_within (i + 1) n), range_rises (i + 1) n)

found_at : (i n q : ℕ) (b : Bool) → (i == q) ≡ b → i ≤ q → ((i + 1 ≤ q) → filter (λ x. x == q) (range_with_len (i + 1) n) ≡ q ∷ [])
    → cond b (i ∷ filter (λ x. x == q) (range_with_len (i + 1) n)) (filter (λ x. x == q) (range_with_len (i + 1) n)) ≡ q ∷ []
found_at i n q true e l ih =
    let same : i ≡ q = eqb-true i q e in
    ap (λ ys. i ∷ ys) (none_kept (λ x. x == q) (range_with_len (i + 1) n)
    (AllByRecursion-weaker (λ x. (i + 1 ≤ x) × (x < i + 1 + n)) (λ x. (x == q) ≡ false) (range_with_len (i + 1) n) (λ x h. ne_eqb x q (λ f. omega (arith, h, same, f))) (range_within (i + 1) n)))
    ∙ ap (λ x. x ∷ []) same
found_at i n q false e l ih = ih (omega (arith, l, eqb-false i q e))

pub one_in_range : (i n q : ℕ) → i ≤ q → q < i + n → filter (λ x. x == q) (range_with_len i n) ≡ q ∷ []
one_in_range i zero q l m = absurd (omega (arith, l, m))
one_in_range i (suc n) q l m = found_at i n q (i == q) refl l (λ k. one_in_range (i + 1) n q k (omega (arith, m)))

kept_or_not : {X Y : Type 0} (f : X → Y) (x : X) (xs : List X) (b : Bool) → cond b (f x ∷ map f xs) (map f xs) ≡ map f (cond b (x ∷ xs) xs)
kept_or_not f x xs true = refl
kept_or_not f x xs false = refl

pub filter_map_of : {X Y : Type 0} (p : Y → Bool) (f : X → Y) (xs : List X) → filter p (map f xs) ≡ map f (filter (λ x. p (f x)) xs)
filter_map_of p f [] = refl
filter_map_of p f (x ∷ xs) = ap (λ ys. cond (p (f x)) (f x ∷ ys) ys) (filter_map_of p f xs) ∙ kept_or_not f x (filter (λ x. p (f x)) xs) (p (f x))

pub any_behind : {X : Type 0} (m : X → Bool) (x : X) (xs : List X) (b : Bool) → list_any m xs ≡ true → list_any m (cond b (x ∷ xs) xs) ≡ true
any_behind m x xs true e = ap (λ b. m x || b) e ∙ or_comm (m x) true
any_behind m x xs false e = e

pub any_kept : {X : Type 0} (p m : X → Bool) (xs : List X) (k : ℕ) (x : X) → k < length xs → get_or xs k x ≡ x → p x ≡ true → m x ≡ true → list_any m (filter p xs) ≡ true
any_kept p m [] k x w at e f = absurd (omega (arith, w))
any_kept p m (y ∷ ys) zero x w at e f =
    ap (λ b. list_any m (cond b (y ∷ filter p ys) (filter p ys))) (ap p at ∙ e) ∙ ap (λ b. b || list_any m (filter p ys)) (ap m at ∙ f)
any_kept p m (y ∷ ys) (suc k) x w at e f = any_behind m y (filter p ys) (p y) (any_kept p m ys k x (omega (arith, w)) at e f)

pub kept_here : {X : Type 0} (P : X → Type 0) (x : X) (xs : List X) (b : Bool) → All P (cond b (x ∷ xs) xs) → b ≡ true → P x
kept_here P x xs true all e = all 0 x (omega arith)
kept_here P x xs false all e = cc

pub kept_rest : {X : Type 0} (P : X → Type 0) (x : X) (xs : List X) (b : Bool) → All P (cond b (x ∷ xs) xs) → All P xs
kept_rest P x xs true all = All-tail P x xs all
kept_rest P x xs false all = all

-- what holds of all items that pass
pub of_kept : {X : Type 0} (P : X → Type 0) (p : X → Bool) (xs : List X) → All P (filter p xs) → All (λ x. p x ≡ true → P x) xs
of_kept P p [] all = λ k d w. absurd (omega (arith, w))
of_kept P p (x ∷ xs) all = All-cons (λ y. p y ≡ true → P y) x xs (kept_here P x (filter p xs) (p x) all) (of_kept P p xs (kept_rest P x (filter p xs) (p x) all))
