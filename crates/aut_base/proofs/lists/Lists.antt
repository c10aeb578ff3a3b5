-- Lemmas on the indices and parts of lists that the standard library doesn't have.
use Rattle.aut_base.proofs.numbers.Truth.{and_comm, or_comm}
use Rattle.std.proofs.Common.{Bool, List, None, Some, [], ap, arith, cond, drop, false, filter, get_or, inl, inr, length, map, refl, slice_get, suc}
use Rattle.std.proofs.Common.{sym, take, true, zero, ℕ, ◌&&◌, ◌++◌, ◌+◌, ◌-◌, ◌<◌, ◌==◌, ◌||◌, ◌∙◌, ◌∷◌, ◌≡◌, ◌≤◌, ◌⊎◌}
use Rattle.std.proofs.lemmas.Bool.{and_from}
use Rattle.std.proofs.lemmas.Bool.Decides.{nat_tests}
use Rattle.std.proofs.lemmas.List.Concat.{flat_map-append}
use Rattle.std.proofs.lemmas.List.{append-nil, append_assoc, drop-drop, drop_more, map-append, take-append-drop, take_more}
use Rattle.std.proofs.lemmas.List.Folds.{list_all-append, list_any-append}
use Rattle.std.proofs.lemmas.Option.{none-some, same_Some}
use Rattle.std.specs.List.{list_all, list_any, range_with_len}
use Rattle.std.specs.Prelude.{flat_map}

pub slice_get-append_left : {A : Type 0} (xs ys : List A) (n : ℕ) → n < length xs → slice_get (xs ++ ys) n ≡ slice_get xs n
slice_get-append_left [] ys n within = absurd (omega arith)
slice_get-append_left (x ∷ xs) ys zero within = refl
slice_get-append_left (x ∷ xs) ys (suc n) within = slice_get-append_left xs ys n (omega arith)

pub slice_get-append_right : {A : Type 0} (xs ys : List A) (n m : ℕ) → m ≡ length xs + n → slice_get (xs ++ ys) m ≡ slice_get ys n
slice_get-append_right [] ys n m e = ap (slice_get ys) (omega arith)
slice_get-append_right (x ∷ xs) ys n zero e = absurd (omega arith)
slice_get-append_right (x ∷ xs) ys n (suc m) e = slice_get-append_right xs ys n m (omega arith)

pub slice_get-push_left : {X : Type 0} (xs : List X) (y : X) (i : ℕ) (x : X) → slice_get xs i ≡ Some x → slice_get (xs ++ y ∷ []) i ≡ Some x
slice_get-push_left [] y i x is = absurd (none-some x is)
slice_get-push_left (z ∷ xs) y zero x is = is
slice_get-push_left (z ∷ xs) y (suc i) x is = slice_get-push_left xs y i x is

-- an item of a list to which one was added
pub slice_get-push_cases : {X : Type 0} (xs : List X) (y : X) (i : ℕ) (x : X) → slice_get (xs ++ y ∷ []) i ≡ Some x → (slice_get xs i ≡ Some x) ⊎ ((i ≡ length xs) × (y ≡ x))
slice_get-push_cases [] y zero x h = inr (refl, same_Some y x h)
slice_get-push_cases [] y (suc i) x h = absurd (none-some x h)
slice_get-push_cases (z ∷ xs) y zero x h = inl h
slice_get-push_cases (z ∷ xs) y (suc i) x h = elim (slice_get-push_cases xs y i x h) [ inl e ↦ inl e | inr e ↦ inr (ap suc e.0, e.1) ]

pub slice_get-push_last : {X : Type 0} (xs : List X) (y : X) (i : ℕ) → length xs ≡ i → slice_get (xs ++ y ∷ []) i ≡ Some y
slice_get-push_last [] y zero e = refl
slice_get-push_last [] y (suc i) e = absurd (omega (arith, e))
slice_get-push_last (x ∷ xs) y zero e = absurd (omega (arith, e))
slice_get-push_last (x ∷ xs) y (suc i) e = slice_get-push_last xs y i (omega (arith, e))

pub slice_get-at : {X : Type 0} (xs : List X) (i : ℕ) (x : X) → i < length xs → x ≡ get_or xs i x → slice_get xs i ≡ Some x
slice_get-at [] i x l is = absurd (omega (arith, l))
slice_get-at (y ∷ ys) zero x l is = ap Some (sym is)
slice_get-at (y ∷ ys) (suc i) x l is = slice_get-at ys i x (omega (arith, l)) is

-- the rest of a list from an index on
pub drop-at : {X : Type 0} (xs : List X) (i : ℕ) (x : X) → i < length xs → x ≡ get_or xs i x → drop i xs ≡ x ∷ drop (i + 1) xs
drop-at xs i x l is = drop_more xs i x l ∙ ap (λ y. y ∷ drop (i + 1) xs) (sym is)

pub take-push : {X : Type 0} (xs : List X) (i : ℕ) (x : X) → i < length xs → x ≡ get_or xs i x → take (i + 1) xs ≡ take i xs ++ x ∷ []
take-push xs i x l is = take_more xs i x l ∙ ap (λ y. take i xs ++ y ∷ []) (sym is)

-- a list is what is before an index, the item there, and what is after it
pub split-at : {X : Type 0} (xs : List X) (i : ℕ) (x : X) → i < length xs → x ≡ get_or xs i x → xs ≡ take i xs ++ x ∷ drop (i + 1) xs
split-at xs i x l is = sym (take-append-drop i xs) ∙ ap (λ d. take i xs ++ d) (drop_more xs i x l ∙ ap (λ y. y ∷ drop (i + 1) xs) (sym is))

-- the same, where the item is known by `slice_get`
pub drop-slice_get_suc : {X : Type 0} (xs : List X) (i : ℕ) (x : X) → slice_get xs i ≡ Some x → drop i xs ≡ x ∷ drop (suc i) xs
drop-slice_get_suc [] i x is = absurd (none-some x is)
drop-slice_get_suc (y ∷ ys) zero x is = ap (λ z. z ∷ ys) (same_Some y x is)
drop-slice_get_suc (y ∷ ys) (suc i) x is = drop-slice_get_suc ys i x is

pub drop-slice_get : {X : Type 0} (xs : List X) (i : ℕ) (x : X) → slice_get xs i ≡ Some x → drop i xs ≡ x ∷ drop (i + 1) xs
drop-slice_get xs i x is = let next : suc i ≡ i + 1 = omega arith in drop-slice_get_suc xs i x is ∙ ap (λ n. x ∷ drop n xs) next

-- a prefix that is longer by an item
pub take-slice_get_suc : {X : Type 0} (xs : List X) (i : ℕ) (x : X) → slice_get xs i ≡ Some x → take (suc i) xs ≡ take i xs ++ x ∷ []
take-slice_get_suc [] i x is = absurd (none-some x is)
take-slice_get_suc (y ∷ ys) zero x is = ap (λ z. z ∷ []) (same_Some y x is)
take-slice_get_suc (y ∷ ys) (suc i) x is = ap (λ zs. y ∷ zs) (take-slice_get_suc ys i x is)

pub take-slice_get : {X : Type 0} (xs : List X) (i : ℕ) (x : X) → slice_get xs i ≡ Some x → take (i + 1) xs ≡ take i xs ++ x ∷ []
take-slice_get xs i x is = let next : i + 1 ≡ suc i = omega arith in ap (λ n. take n xs) next ∙ take-slice_get_suc xs i x is

-- dropping another item
pub drop_one_more : {A : Type 0} (taken : ℕ) (text : List A) → drop (taken + 1) text ≡ drop 1 (drop taken text)
drop_one_more taken text = sym (drop-drop 1 taken text)

pub slice_get-behind_two : {A : Type 0} (a b : A) (xs : List A) (place : ℕ) → 2 ≤ place → slice_get (a ∷ b ∷ xs) place ≡ slice_get xs (place - 2)
slice_get-behind_two a b xs zero h = absurd (omega arith)
slice_get-behind_two a b xs (suc zero) h = absurd (omega arith)
slice_get-behind_two a b xs (suc (suc n)) h = let e : suc (suc n) - 2 ≡ n = omega arith in rw e refl

pub list_any-map : {A B : Type 0} (p : B → Bool) (f : A → B) (xs : List A) → list_any p (map f xs) ≡ list_any (λ x. p (f x)) xs
list_any-map p f [] = refl
list_any-map p f (x ∷ xs) = ap (λ b. p (f x) || b) (list_any-map p f xs)

pub list_any-turned : {A : Type 0} (p : A → Bool) (n : ℕ) (xs : List A) → list_any p (drop n xs ++ take n xs) ≡ list_any p xs
list_any-turned p n xs =
    list_any-append p (drop n xs) (take n xs)
    ∙ (or_comm (list_any p (drop n xs)) (list_any p (take n xs)) ∙ (sym (list_any-append p (take n xs) (drop n xs)) ∙ ap (list_any p) (take-append-drop n xs)))

pub list_all-turned : {A : Type 0} (p : A → Bool) (n : ℕ) (xs : List A) → list_all p (drop n xs ++ take n xs) ≡ list_all p xs
list_all-turned p n xs =
    list_all-append p (drop n xs) (take n xs)
    ∙ (and_comm (list_all p (drop n xs)) (list_all p (take n xs)) ∙ (sym (list_all-append p (take n xs) (drop n xs)) ∙ ap (list_all p) (take-append-drop n xs)))

pub list_all-same : {X : Type 0} (p q : X → Bool) → ((x : X) → p x ≡ q x) → (xs : List X) → list_all p xs ≡ list_all q xs
list_all-same p q h [] = refl
list_all-same p q h (x ∷ xs) = ap (λ b. b && list_all p xs) (h x) ∙ ap (λ b. q x && b) (list_all-same p q h xs)

pub list_all-flat_map : {X Y : Type 0} (p : Y → Bool) (f : X → List Y) (xs : List X) → list_all p (flat_map f xs) ≡ list_all (λ x. list_all p (f x)) xs
list_all-flat_map p f [] = refl
list_all-flat_map p f (x ∷ xs) = list_all-append p (f x) (flat_map f xs) ∙ ap (λ b. list_all p (f x) && b) (list_all-flat_map p f xs)

pub list_all-push : (p : ℕ → Bool) (b : ℕ) (seen : List ℕ) → list_all p seen ≡ true → p b ≡ true → list_all p (seen ++ b ∷ []) ≡ true
list_all-push p b seen h k = list_all-append p seen (b ∷ []) ∙ and_from _ _ h (and_from _ _ k refl)

pub push_not_empty : (xs : List ℕ) (b : ℕ) → xs ++ b ∷ [] ≡ [] → ⊥
push_not_empty [] b e = cc
push_not_empty (x ∷ xs) b e = cc

pub empty_of_length : (name : List ℕ) → (length name == 0) ≡ true → name ≡ []
empty_of_length [] e = refl
empty_of_length (b ∷ bs) e = grind (arith, nat_tests)

pub right_empty : (xs ys : List ℕ) → xs ++ ys ≡ [] → ys ≡ []
right_empty [] ys e = e
right_empty (x ∷ xs) ys e = cc

pub cons-tail : (b c : ℕ) (xs ys : List ℕ) → b ∷ xs ≡ c ∷ ys → xs ≡ ys
cons-tail b c xs ys e = cc

pub append-cancel : (s rest rest' : List ℕ) → s ++ rest ≡ s ++ rest' → rest ≡ rest'
append-cancel [] rest rest' e = e
append-cancel (b ∷ bs) rest rest' e = append-cancel bs rest rest' (cons-tail b b (bs ++ rest) (bs ++ rest') e)

pub cons-head : (b c : ℕ) (xs ys : List ℕ) → b ∷ xs ≡ c ∷ ys → b ≡ c
cons-head b c xs ys e = cc

pub none_some : {X : Type 0} (x : X) → None ≡ Some x → ⊥
none_some x e = cc

pub map-map_same : {P M : Type 0} (plain : P → P) (meaning : P → M) → ((p : P) → meaning (plain p) ≡ meaning p) → (ps : List P) → map meaning (map plain ps) ≡ map meaning ps
map-map_same plain meaning one [] = refl
map-map_same plain meaning one (p ∷ ps) =
    let first = one p in
    let others = map-map_same plain meaning one ps in
    cc

pub range_more : (a n : ℕ) → range_with_len a (n + 1) ≡ range_with_len a n ++ (a + n) ∷ []
range_more a zero = let z : a ≡ a + 0 = omega arith in ap (λ x. x ∷ []) z
range_more a (suc n) =
    let z : a + 1 + n ≡ a + suc n = omega arith in
    let m : suc n + 1 ≡ suc (n + 1) = omega arith in
    ap (range_with_len a) m ∙ ap (λ xs. a ∷ xs) (range_more (a + 1) n ∙ ap (λ x. range_with_len (a + 1) n ++ x ∷ []) z)

pub append_three : {A : Type 0} (a b c d : List A) → (a ++ (b ++ c)) ++ d ≡ a ++ (b ++ (c ++ d))
append_three a b c d = append_assoc a (b ++ c) d ∙ ap (λ w. a ++ w) (append_assoc b c d)

-- the lists of the numbers up to n are those of the numbers below n, and that of n
pub flat_map-range_more : {A : Type 0} (f : ℕ → List A) (n : ℕ) → flat_map f (range_with_len 0 (n + 1)) ≡ flat_map f (range_with_len 0 n) ++ f n
flat_map-range_more f n =
    let e : 0 + n ≡ n = omega arith in
    ap (flat_map f) (range_more 0 n) ∙ (flat_map-append f (range_with_len 0 n) ((0 + n) ∷ [])
    ∙ (ap (λ m. flat_map f (range_with_len 0 n) ++ flat_map f (m ∷ [])) e ∙ ap (λ ys. flat_map f (range_with_len 0 n) ++ ys) (append-nil (f n))))

pub map-filter : {X Y : Type 0} (f : X → Y) (p : Y → Bool) (xs : List X) → map f (filter (λ x. p (f x)) xs) ≡ filter p (map f xs)
map-filter f p [] = refl
map-filter f p (x ∷ xs) = by_cases (p (f x)) (map-filter f p xs)
  where
    by_cases : (b : Bool) → map f (filter (λ y. p (f y)) xs) ≡ filter p (map f xs)
        → map f (cond b (x ∷ filter (λ y. p (f y)) xs) (filter (λ y. p (f y)) xs)) ≡ cond b (f x ∷ filter p (map f xs)) (filter p (map f xs))
    by_cases true rest = ap (λ ys. f x ∷ ys) rest
    by_cases false rest = rest

pub map-flat_map : {X Y Z : Type 0} (g : Y → Z) (f : X → List Y) (xs : List X) → map g (flat_map f xs) ≡ flat_map (λ x. map g (f x)) xs
map-flat_map g f [] = refl
map-flat_map g f (x ∷ xs) = map-append g (f x) (flat_map f xs) ∙ ap (λ ys. map g (f x) ++ ys) (map-flat_map g f xs)
