-- Membership in lists: in lists made of others, by index, and by tests of some item or of all.
use Rattle.std.proofs.Common.{◌≡◌, ◌∙◌, ◌↔◌, ◌⊎◌, ◌&&◌, ◌+◌, ◌<◌, ◌≤◌, ℕ, zero, suc, Bool, true, false, cond, List, [], ◌∷◌, ◌++◌, All, Contains, Some, ap}
use Rattle.std.proofs.Common.{arith, filter, get_or, inl, inr, length, map, refl, slice_get, subst, sym, take}
use Rattle.std.proofs.lemmas.Bool.{and_from, and_parts, cases_eq, or_cases, or_left, or_parts, or_right, true≢false}
use Rattle.std.proofs.lemmas.List.{get_or-map, length-map}
use Rattle.std.proofs.lemmas.List.Elements.{All-contains, All-contains_itself, All-filter, Contains-append_cases, Contains-append_left, Contains-append_right, Contains-get_or, filter_passes}
use Rattle.std.proofs.lemmas.List.Folds.{Any-from_list_any, list_all-append, list_any_at}
use Rattle.std.proofs.lemmas.List.FromFn.{get_or-range_with_len, length-range_with_len}
use Rattle.std.proofs.lemmas.Option.{none-some, same_Some}
use Rattle.std.specs.List.{list_all, list_any, range_with_len}
use Rattle.std.specs.Prelude.{flat_map}
use Rattle.aut_base.proofs.lists.Lists.{slice_get-at, take-slice_get}

pub none_there : {X : Type 0} (x : X) → Contains [] x → ⊥
none_there x there = absurd (omega (arith, there.1))

pub first_there : {X : Type 0} (x : X) (xs : List X) → Contains (x ∷ xs) x
first_there x xs = (zero, omega arith, refl)

pub later_there : {X : Type 0} (x : X) (xs : List X) (y : X) → Contains xs y → Contains (x ∷ xs) y
later_there x xs y there = Contains-append_right (x ∷ []) xs y there

pub there_cases : {X : Type 0} (x : X) (xs : List X) (y : X) → Contains (x ∷ xs) y → (x ≡ y) ⊎ Contains xs y
there_cases x xs y (zero, within, is) = inl is
there_cases x xs y (suc k, within, is) = inr (k, omega (arith, within), is)

-- what holds of each member holds of each item
pub each_there : {X : Type 0} (P : X → Type 0) (xs : List X) → ((x : X) → Contains xs x → P x) → All P xs
each_there P xs h k d within = h (get_or xs k d) (Contains-get_or xs k d within)

-- what holds of each item of two lists together holds of each of the first, and of each of the second
pub all_of_first : {X : Type 0} (P : X → Type 0) (xs ys : List X) → All P (xs ++ ys) → All P xs
all_of_first P xs ys all k d within = All-contains P (xs ++ ys) (get_or xs k d) all (Contains-append_left xs ys (get_or xs k d) (Contains-get_or xs k d within))

pub all_of_second : {X : Type 0} (P : X → Type 0) (xs ys : List X) → All P (xs ++ ys) → All P ys
all_of_second P xs ys all k d within = All-contains P (xs ++ ys) (get_or ys k d) all (Contains-append_right xs ys (get_or ys k d) (Contains-get_or ys k d within))

pub there_map : {X Y : Type 0} (f : X → Y) (xs : List X) (x : X) → Contains xs x → Contains (map f xs) (f x)
there_map f xs x there = (there.0, omega (arith, there.1, length-map xs f), get_or-map f xs there.0 x (f x) there.1 ∙ ap f there.2)

pub from_map : {X Y : Type 0} (f : X → Y) (xs : List X) (y : Y) → Contains (map f xs) y → (x : X) × Contains xs x × (f x ≡ y)
from_map f [] y there = absurd (none_there y there)
from_map f (x ∷ xs) y there = elim (there_cases (f x) (map f xs) y there) [
  | inl here ↦ (x, first_there x xs, here)
  | inr later ↦ (let rest = from_map f xs y later in (rest.0, later_there x xs rest.0 rest.1, rest.2))
]

-- functions that agree on the members of a list map it to the same list
pub map_alike : {X Y : Type 0} (f g : X → Y) (xs : List X) → ((x : X) → Contains xs x → f x ≡ g x) → map f xs ≡ map g xs
map_alike f g [] same = refl
map_alike f g (x ∷ xs) same = λ i. same x (zero, omega arith, refl) i ∷ map_alike f g xs (λ y there. same y (suc there.0, omega (arith, there.1), there.2)) i

pub there_flat_map : {X Y : Type 0} (f : X → List Y) (xs : List X) (x : X) (y : Y) → Contains xs x → Contains (f x) y → Contains (flat_map f xs) y
there_flat_map f [] x y outer inner = absurd (none_there x outer)
there_flat_map f (z ∷ xs) x y outer inner = elim (there_cases z xs x outer) [
  | inl here ↦ Contains-append_left (f z) (flat_map f xs) y (subst (λ w. Contains (f w) y) (sym here) inner)
  | inr later ↦ Contains-append_right (f z) (flat_map f xs) y (there_flat_map f xs x y later inner)
]

pub from_flat_map : {X Y : Type 0} (f : X → List Y) (xs : List X) (y : Y) → Contains (flat_map f xs) y → (x : X) × Contains xs x × Contains (f x) y
from_flat_map f [] y there = absurd (none_there y there)
from_flat_map f (x ∷ xs) y there = elim (Contains-append_cases (f x) (flat_map f xs) y there) [
  | inl here ↦ (x, first_there x xs, here)
  | inr later ↦ (let rest = from_flat_map f xs y later in (rest.0, later_there x xs rest.0 rest.1, rest.2))
]

pub there_filter : {X : Type 0} (p : X → Bool) (xs : List X) (x : X) → Contains xs x → p x ≡ true → Contains (filter p xs) x
there_filter p [] x there passes = absurd (none_there x there)
there_filter p (y ∷ xs) x there passes = elim (there_cases y xs x there) [
  | inl here ↦ subst (λ (b : Bool). Contains (cond b (y ∷ filter p xs) (filter p xs)) x) (sym (ap p here ∙ passes)) (subst (λ z. Contains (y ∷ filter p xs) z) here (first_there y (filter p xs)))
  | inr later ↦ behind (p y) (there_filter p xs x later passes)
]
  where
    behind : (b : Bool) → Contains (filter p xs) x → Contains (cond b (y ∷ filter p xs) (filter p xs)) x
    behind true inside = later_there y (filter p xs) x inside
    behind false inside = inside

pub from_filter : {X : Type 0} (p : X → Bool) (xs : List X) (x : X) → Contains (filter p xs) x → Contains xs x × (p x ≡ true)
from_filter p xs x there = (
  subst (λ y. Contains xs y) there.2 (All-filter p (Contains xs) xs (All-contains_itself xs) there.0 x there.1),
  ap p (sym there.2) ∙ filter_passes p xs there.0 x there.1,
)

pub there_range : (a n x : ℕ) → a ≤ x → x < a + n → Contains (range_with_len a n) x
there_range a zero x low high = absurd (omega (arith, low, high))
there_range a (suc n) x low high = elim (cases_eq a x) [
  | inl same ↦ (zero, omega arith, same)
  | inr other ↦ later_there a (range_with_len (a + 1) n) x (there_range (a + 1) n x (omega (arith, low, other)) (omega (arith, high)))
]

pub there_range_zero : (n k : ℕ) → k < n → Contains (range_with_len 0 n) k
there_range_zero n k less = there_range 0 n k (omega arith) (omega (arith, less))

pub from_range : (a n x : ℕ) → Contains (range_with_len a n) x → (a ≤ x) × (x < a + n)
from_range a n x there =
    let within : there.0 < n = omega (arith, length-range_with_len a n, there.1) in
    let is : a + there.0 ≡ x = sym (get_or-range_with_len a n there.0 x within) ∙ there.2 in
    (omega (arith, is), omega (arith, is, within))

-- a test of equality
abbrev pub Tells : {X : Type 0} → (X → X → Bool) → Type 0
Tells {X} same = (a b : X) → (same a b ≡ true) ↔ (a ≡ b)

pub found_there : {X : Type 0} (same : X → X → Bool) → Tells same → (x : X) (xs : List X) → list_any (same x) xs ≡ true → Contains xs x
found_there same tells x xs some =
    let found = Any-from_list_any (same x) xs some in
    let is : x ≡ found.1 = (tells x found.1).0 found.4 in
    subst (λ y. Contains xs y) (sym is) (found.0, found.2, found.3)

pub there_found : {X : Type 0} (same : X → X → Bool) → Tells same → (x : X) (xs : List X) → Contains xs x → list_any (same x) xs ≡ true
there_found same tells x xs there = list_any_at (same x) xs there.0 x there.1 ((tells x (get_or xs there.0 x)).1 (sym there.2))

-- what holds of each item holds of the one that was read
pub read_has : {X : Type 0} (P : X → Type 0) (xs : List X) (i : ℕ) (x : X) → All P xs → i < length xs → x ≡ get_or xs i x → P x
read_has P xs i x all within is = subst P (sym is) (all i x within)

pub placed_there : {A : Type 0} (xs : List A) (i : ℕ) (x : A) → slice_get xs i ≡ Some x → Contains xs x
placed_there [] i x is = absurd (none-some x is)
placed_there (y ∷ ys) zero x is = subst (Contains (y ∷ ys)) (same_Some y x is) (first_there y ys)
placed_there (y ∷ ys) (suc i) x is = later_there y ys x (placed_there ys i x is)

-- some item passes a test where a member does
pub any_from : {A : Type 0} (p : A → Bool) (xs : List A) (x : A) → Contains xs x → p x ≡ true → list_any p xs ≡ true
any_from p [] x h passes = absurd (none_there x h)
any_from p (y ∷ ys) x h passes = elim (there_cases y ys x h) [
  | inl e ↦ or_left (p y) (list_any p ys) (ap p e ∙ passes)
  | inr rest ↦ or_right (p y) (list_any p ys) (any_from p ys x rest passes)
]

pub any_found : {A : Type 0} (p : A → Bool) (xs : List A) → list_any p xs ≡ true → (x : A) × Contains xs x × (p x ≡ true)
any_found p [] h = absurd (true≢false (sym h))
any_found p (y ∷ ys) h = elim (or_cases (p y) (list_any p ys) h) [
  | inl e ↦ (y, first_there y ys, e)
  | inr rest ↦ (let found = any_found p ys rest in (found.0, later_there y ys found.0 found.1, found.2))
]

pub none_at : {A : Type 0} (p : A → Bool) (xs : List A) (x : A) → list_any p xs ≡ false → Contains xs x → p x ≡ false
none_at p [] x none h = absurd (none_there x h)
none_at p (y ∷ ys) x none h =
    let parts = or_parts (p y) (list_any p ys) none in
    elim (there_cases y ys x h) [ inl e ↦ ap p (sym e) ∙ parts.0 | inr rest ↦ none_at p ys x parts.1 rest ]

-- or where the item at an index does
pub any_at : {A : Type 0} (p : A → Bool) (xs : List A) (i : ℕ) (x : A) → slice_get xs i ≡ Some x → p x ≡ true → list_any p xs ≡ true
any_at p xs i x is passes = any_from p xs x (placed_there xs i x is) passes

pub all_fails_at : {A : Type 0} (p : A → Bool) (xs : List A) (i : ℕ) (x : A) → slice_get xs i ≡ Some x → p x ≡ false → list_all p xs ≡ false
all_fails_at p [] i x is fails = absurd (none-some x is)
all_fails_at p (y ∷ ys) zero x is fails = let here : p y ≡ false = ap p (same_Some y x is) ∙ fails in rw here refl
all_fails_at p (y ∷ ys) (suc i) x is fails = let rest : list_all p ys ≡ false = all_fails_at p ys i x is fails in both (p y) (list_all p ys) rest
  where
    both : (a b : Bool) → b ≡ false → (a && b) ≡ false
    both true b h = h
    both false b h = refl

pub all_take_more : {A : Type 0} (p : A → Bool) (xs : List A) (i : ℕ) (x : A) → slice_get xs i ≡ Some x → list_all p (take i xs) ≡ true → p x ≡ true → list_all p (take (i + 1) xs) ≡ true
all_take_more p xs i x is before here =
    ap (list_all p) (take-slice_get xs i x is) ∙ list_all-append p (take i xs) (x ∷ []) ∙ and_from (list_all p (take i xs)) (list_all p (x ∷ [])) before (and_from (p x) true here refl)

pub all_passes_at : {A : Type 0} (p : A → Bool) (xs : List A) (i : ℕ) (x : A) → slice_get xs i ≡ Some x → list_all p xs ≡ true → p x ≡ true
all_passes_at p xs i x is all = go (p x) refl
  where
    go : (b : Bool) → p x ≡ b → p x ≡ true
    go true here = here
    go false here = absurd (true≢false (sym all ∙ all_fails_at p xs i x is here))

-- and of a test of all of them
pub each_is : {X : Type 0} (p : X → Bool) (xs : List X) (x : X) → list_all p xs ≡ true → Contains xs x → p x ≡ true
each_is p [] x e there = absurd (omega (arith, there.1))
each_is p (z ∷ zs) x e (zero, within, is) = ap p (sym is) ∙ (and_parts (p z) (list_all p zs) e).0
each_is p (z ∷ zs) x e (suc k, within, is) = each_is p zs x (and_parts (p z) (list_all p zs) e).1 (k, omega (arith, within), is)

pub each_from : {X : Type 0} (p : X → Bool) (xs : List X) → ((x : X) → Contains xs x → p x ≡ true) → list_all p xs ≡ true
each_from p [] each = refl
each_from p (x ∷ xs) each = and_from (p x) (list_all p xs) (each x (first_there x xs)) (each_from p xs (λ y there. each y (later_there x xs y there)))

pub one_of_two : {X : Type 0} (P : X → Type 0) (d e x : X) → Contains (d ∷ e ∷ []) x → P d → P e → P x
one_of_two P d e x there first second = go there.0 there.1 there.2
  where
    go : (k : ℕ) → k < 2 → get_or (d ∷ e ∷ []) k x ≡ x → P x
    go zero within is = subst P is first
    go (suc zero) within is = subst P is second
    go (suc (suc k)) within is = absurd (omega arith)

pub item_at : {X : Type 0} (list : List X) (k : ℕ) → k < length list → (x : X) × (get_or list k x ≡ x)
item_at [] k within = absurd (omega arith)
item_at (x ∷ xs) zero within = (x, refl)
item_at (x ∷ xs) (suc k) within = item_at xs k (omega (arith, within))

pub there_at : {X : Type 0} (xs : List X) (x : X) → Contains xs x → (k : ℕ) × (slice_get xs k ≡ Some x)
there_at xs x there = (there.0, slice_get-at xs there.0 x there.1 (sym there.2))
