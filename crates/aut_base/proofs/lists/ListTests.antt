-- Tests of the items of lists: of each, of some, of two lists item by item.
use Rattle.std.proofs.Common.{Bool, Contains, List, Some, [], ap, false, inl, inr, map, not, refl, slice_get, subst, suc, sym, true, zero, ℕ, ◌&&◌, ◌++◌, ◌||◌, ◌∙◌, ◌∷◌, ◌≡◌}
use Rattle.std.proofs.lemmas.Bool.{cases_Bool, false≢true, or_left}
use Rattle.std.proofs.lemmas.List.Folds.{list_any-append}
use Rattle.std.proofs.lemmas.Option.{none-some, same_Some}
use Rattle.std.specs.List.{AllZip, list_all, list_any}
use Rattle.aut_base.proofs.lists.Members.{first_there, later_there}
use Rattle.aut_base.proofs.numbers.Truth.{not-and, not-or}

pub any-not : {A : Type 0} (p : A → Bool) (xs : List A) → list_any (λ x. not (p x)) xs ≡ not (list_all p xs)
any-not p [] = refl
any-not p (x ∷ xs) = not-and (p x) (list_all p xs) (not (p x)) (list_any (λ y. not (p y)) xs) refl (any-not p xs)

pub all-not : {A : Type 0} (p : A → Bool) (xs : List A) → list_all (λ x. not (p x)) xs ≡ not (list_any p xs)
all-not p [] = refl
all-not p (x ∷ xs) = not-or (p x) (list_any p xs) (not (p x)) (list_all (λ y. not (p y)) xs) refl (all-not p xs)

pub any-map_alike : {A B : Type 0} (p : A → Bool) (q : B → Bool) (h : A → B) → ((x : A) → p x ≡ q (h x)) → (xs : List A) → list_any p xs ≡ list_any q (map h xs)
any-map_alike p q h same [] = refl
any-map_alike p q h same (x ∷ xs) = ap (λ b. b || list_any p xs) (same x) ∙ ap (λ b. q (h x) || b) (any-map_alike p q h same xs)

pub all-map_alike : {A B : Type 0} (p : A → Bool) (q : B → Bool) (h : A → B) → ((x : A) → p x ≡ q (h x)) → (xs : List A) → list_all p xs ≡ list_all q (map h xs)
all-map_alike p q h same [] = refl
all-map_alike p q h same (x ∷ xs) = ap (λ b. b && list_all p xs) (same x) ∙ ap (λ b. q (h x) && b) (all-map_alike p q h same xs)

pub any-longer : {A : Type 0} (p : A → Bool) (xs ys : List A) → list_any p xs ≡ true → list_any p (xs ++ ys) ≡ true
any-longer p xs ys some = list_any-append p xs ys ∙ or_left (list_any p xs) (list_any p ys) some

pub zip_all : {X Y : Type 0} (R : X → Y → Type 0) (p : X → Bool) (q : Y → Bool) → ((x : X) (y : Y) → R x y → p x ≡ q y) → (xs : List X) (ys : List Y) → AllZip R xs ys → list_all p xs ≡ list_all q ys
zip_all R p q same [] [] zip = refl
zip_all R p q same [] (y ∷ ys) zip = absurd zip
zip_all R p q same (x ∷ xs) [] zip = absurd zip
zip_all R p q same (x ∷ xs) (y ∷ ys) zip = ap (λ b. b && list_all p xs) (same x y zip.0) ∙ ap (λ b. q y && b) (zip_all R p q same xs ys zip.1)

pub zip_any : {X Y : Type 0} (R : X → Y → Type 0) (p : X → Bool) (q : Y → Bool) → ((x : X) (y : Y) → R x y → p x ≡ q y) → (xs : List X) (ys : List Y) → AllZip R xs ys → list_any p xs ≡ list_any q ys
zip_any R p q same [] [] zip = refl
zip_any R p q same [] (y ∷ ys) zip = absurd zip
zip_any R p q same (x ∷ xs) [] zip = absurd zip
zip_any R p q same (x ∷ xs) (y ∷ ys) zip = ap (λ b. b || list_any p xs) (same x y zip.0) ∙ ap (λ b. q y || b) (zip_any R p q same xs ys zip.1)

pub zip_append : {X Y : Type 0} (R : X → Y → Type 0) (xs us : List X) (ys vs : List Y) → AllZip R xs ys → AllZip R us vs → AllZip R (xs ++ us) (ys ++ vs)
zip_append R [] us [] vs first second = second
zip_append R [] us (y ∷ ys) vs first second = absurd first
zip_append R (x ∷ xs) us [] vs first second = absurd first
zip_append R (x ∷ xs) us (y ∷ ys) vs first second = (first.0, zip_append R xs us ys vs first.1 second)

-- the item at the same index of the other list
pub zip_left : {X Y : Type 0} (R : X → Y → Type 0) (xs : List X) (ys : List Y) (k : ℕ) (x : X) → AllZip R xs ys → slice_get xs k ≡ Some x → (y : Y) × (slice_get ys k ≡ Some y) × R x y
zip_left R [] ys k x zip at = absurd (none-some x at)
zip_left R (a ∷ xs) [] k x zip at = absurd zip
zip_left R (a ∷ xs) (b ∷ ys) zero x zip at = (b, refl, subst (λ z. R z b) (same_Some a x at) zip.0)
zip_left R (a ∷ xs) (b ∷ ys) (suc k) x zip at = zip_left R xs ys k x zip.1 at

pub zip_right : {X Y : Type 0} (R : X → Y → Type 0) (xs : List X) (ys : List Y) (k : ℕ) (y : Y) → AllZip R xs ys → slice_get ys k ≡ Some y → (x : X) × (slice_get xs k ≡ Some x) × R x y
zip_right R xs [] k y zip at = absurd (none-some y at)
zip_right R [] (b ∷ ys) k y zip at = absurd zip
zip_right R (a ∷ xs) (b ∷ ys) zero y zip at = (a, refl, subst (R a) (same_Some b y at) zip.0)
zip_right R (a ∷ xs) (b ∷ ys) (suc k) y zip at = zip_right R xs ys k y zip.1 at

pub one_passes : {X : Type 0} (p : X → Bool) (xs : List X) → list_all (λ x. not (p x)) xs ≡ false → (x : X) × Contains xs x × (p x ≡ true)
one_passes p [] e = absurd (false≢true (sym e))
one_passes p (x ∷ xs) e = elim (cases_Bool (p x)) [
  | inl one ↦ (x, first_there x xs, one)
  | inr none ↦ (let rest = one_passes p xs (sym (ap (λ b. not b && list_all (λ y. not (p y)) xs) none) ∙ e) in (rest.0, later_there x xs rest.0 rest.1, rest.2))
]
