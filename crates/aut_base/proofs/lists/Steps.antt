-- Loops over a list: the items up to an index, and those that are left.
use Rattle.aut_base.proofs.lists.Lists.{drop-slice_get, take-push, take-slice_get}
use Rattle.std.proofs.Common.{Bool, List, Some, [], ap, drop, false, get_or, length, map, slice_get, sym, take, true, ℕ, ◌&&◌, ◌++◌, ◌+◌, ◌||◌, ◌∙◌, ◌∷◌, ◌≡◌, ◌<◌}
use Rattle.std.proofs.lemmas.List.Concat.{flat_map-append}
use Rattle.std.proofs.lemmas.List.{append-nil, append_assoc, map-append}
use Rattle.std.specs.List.{list_all, list_any}
use Rattle.std.specs.Prelude.{flat_map}

-- Where no item so far decides a test, and the next one doesn't, the rest after it does.
pub any_more : {A : Type 0} (p : A → Bool) (xs : List A) (k : ℕ) (x : A) → slice_get xs k ≡ Some x → list_any p (drop k xs) ≡ list_any p xs → p x ≡ false → list_any p (drop (k + 1) xs) ≡ list_any p xs
any_more p xs k x is so_far fails = sym (ap (λ b. b || list_any p (drop (k + 1) xs)) fails) ∙ sym (ap (list_any p) (drop-slice_get xs k x is)) ∙ so_far

pub any_here : {A : Type 0} (p : A → Bool) (xs : List A) (k : ℕ) (x : A) → slice_get xs k ≡ Some x → list_any p (drop k xs) ≡ list_any p xs → p x ≡ true → true ≡ list_any p xs
any_here p xs k x is so_far passes = sym (ap (λ b. b || list_any p (drop (k + 1) xs)) passes) ∙ sym (ap (list_any p) (drop-slice_get xs k x is)) ∙ so_far

pub all_more : {A : Type 0} (p : A → Bool) (xs : List A) (k : ℕ) (x : A) → slice_get xs k ≡ Some x → list_all p (drop k xs) ≡ list_all p xs → p x ≡ true → list_all p (drop (k + 1) xs) ≡ list_all p xs
all_more p xs k x is so_far passes = sym (ap (λ b. b && list_all p (drop (k + 1) xs)) passes) ∙ sym (ap (list_all p) (drop-slice_get xs k x is)) ∙ so_far

pub all_not_here : {A : Type 0} (p : A → Bool) (xs : List A) (k : ℕ) (x : A) → slice_get xs k ≡ Some x → list_all p (drop k xs) ≡ list_all p xs → p x ≡ false → false ≡ list_all p xs
all_not_here p xs k x is so_far fails = sym (ap (λ b. b && list_all p (drop (k + 1) xs)) fails) ∙ sym (ap (list_all p) (drop-slice_get xs k x is)) ∙ so_far

pub map_more : {A B : Type 0} (f : A → B) (xs : List A) (k : ℕ) (x : A) (old new : List B) (y : B) (all : List B) → slice_get xs k ≡ Some x → old ++ map f (drop k xs) ≡ all → y ≡ f x
    → new ≡ old ++ y ∷ [] → new ++ map f (drop (k + 1) xs) ≡ all
map_more f xs k x old new y all is so_far e made =
    ap (λ zs. zs ++ map f (drop (k + 1) xs)) made
    ∙ append_assoc old (y ∷ []) (map f (drop (k + 1) xs))
    ∙ ap (λ z. old ++ z ∷ map f (drop (k + 1) xs)) e
    ∙ sym (ap (λ zs. old ++ map f zs) (drop-slice_get xs k x is))
    ∙ so_far

-- A list to which the rest of another is added element by element.
pub rest_more : {A : Type 0} (xs : List A) (k : ℕ) (x : A) (old new all : List A) (y : A) → slice_get xs k ≡ Some x → old ++ drop k xs ≡ all → y ≡ x → new ≡ old ++ y ∷ []
    → new ++ drop (k + 1) xs ≡ all
rest_more xs k x old new all y is so_far e made =
    ap (λ zs. zs ++ drop (k + 1) xs) made
    ∙ append_assoc old (y ∷ []) (drop (k + 1) xs)
    ∙ ap (λ z. old ++ z ∷ drop (k + 1) xs) e
    ∙ sym (ap (λ zs. old ++ zs) (drop-slice_get xs k x is))
    ∙ so_far

-- the images of the items so far, and that of the next one
pub map_on : {X Y : Type 0} (f : X → Y) (xs : List X) (i : ℕ) (x : X) → i < length xs → x ≡ get_or xs i x → map f (take i xs) ++ f x ∷ [] ≡ map f (take (i + 1) xs)
map_on f xs i x within is = sym (ap (map f) (take-push xs i x within is) ∙ map-append f (take i xs) (x ∷ []))

pub map_map_on : {X Y Z : Type 0} (f : Y → Z) (g : X → Y) (xs : List X) (i : ℕ) (x : X) → i < length xs → x ≡ get_or xs i x
    → map f (map g (take i xs)) ++ f (g x) ∷ [] ≡ map f (map g (take (i + 1) xs))
map_map_on f g xs i x within is = sym (map-append f (map g (take i xs)) (g x ∷ [])) ∙ ap (map f) (map_on g xs i x within is)

pub flat_map_on : {X Y : Type 0} (f : X → List Y) (xs : List X) (i : ℕ) (x : X) → slice_get xs i ≡ Some x → flat_map f (take i xs) ++ f x ≡ flat_map f (take (i + 1) xs)
flat_map_on f xs i x is = sym (ap (flat_map f) (take-slice_get xs i x is) ∙ (flat_map-append f (take i xs) (x ∷ []) ∙ ap (λ ys. flat_map f (take i xs) ++ ys) (append-nil (f x))))
