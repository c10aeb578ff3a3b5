-- What holds of each item of a list, item by item.
use Rattle.std.proofs.Common.{◌≡◌, ◌∷◌, ◌++◌, ◌+◌, Bool, List, [], cond, false, filter, map, refl, true, ℕ}
use Rattle.std.proofs.lemmas.Bool.{and_parts}
use Rattle.std.specs.List.{AllByRecursion, enumerate_from, list_all}
use Rattle.std.specs.Prelude.{flat_map}

pub AllByRecursion-push : {X : Type 0} (P : X → Type 0) (xs : List X) (x : X) → AllByRecursion P xs → P x → AllByRecursion P (xs ++ x ∷ [])
AllByRecursion-push P [] x all h = (h, tt)
AllByRecursion-push P (y ∷ xs) x all h = (all.0, AllByRecursion-push P xs x all.1 h)

pub AllByRecursion-weaker : {X : Type 0} (P Q : X → Type 0) (xs : List X) → ((x : X) → P x → Q x) → AllByRecursion P xs → AllByRecursion Q xs
AllByRecursion-weaker P Q [] weaker all = tt
AllByRecursion-weaker P Q (x ∷ xs) weaker all = (weaker x all.0, AllByRecursion-weaker P Q xs weaker all.1)

pub AllByRecursion-map : {X Y : Type 0} (P : Y → Type 0) (f : X → Y) (xs : List X) → AllByRecursion (λ x. P (f x)) xs → AllByRecursion P (map f xs)
AllByRecursion-map P f [] all = tt
AllByRecursion-map P f (x ∷ xs) all = (all.0, AllByRecursion-map P f xs all.1)

pub AllByRecursion-of_each : {X : Type 0} (P : X → Type 0) (xs : List X) → ((x : X) → P x) → AllByRecursion P xs
AllByRecursion-of_each P [] each = tt
AllByRecursion-of_each P (x ∷ xs) each = (each x, AllByRecursion-of_each P xs each)

pub AllByRecursion-append : {X : Type 0} (P : X → Type 0) (xs ys : List X) → AllByRecursion P xs → AllByRecursion P ys → AllByRecursion P (xs ++ ys)
AllByRecursion-append P [] ys a b = b
AllByRecursion-append P (x ∷ xs) ys a b = (a.0, AllByRecursion-append P xs ys a.1 b)

pub AllByRecursion-left : {X : Type 0} (P : X → Type 0) (xs ys : List X) → AllByRecursion P (xs ++ ys) → AllByRecursion P xs
AllByRecursion-left P [] ys all = tt
AllByRecursion-left P (x ∷ xs) ys all = (all.0, AllByRecursion-left P xs ys all.1)

pub AllByRecursion-right : {X : Type 0} (P : X → Type 0) (xs ys : List X) → AllByRecursion P (xs ++ ys) → AllByRecursion P ys
AllByRecursion-right P [] ys all = all
AllByRecursion-right P (x ∷ xs) ys all = AllByRecursion-right P xs ys all.1

pub AllByRecursion-both : {X : Type 0} (P Q : X → Type 0) (xs : List X) → AllByRecursion P xs → AllByRecursion Q xs → AllByRecursion (λ x. P x × Q x) xs
AllByRecursion-both P Q [] a b = tt
AllByRecursion-both P Q (x ∷ xs) a b = ((a.0, b.0), AllByRecursion-both P Q xs a.1 b.1)

pub AllByRecursion-kept_if : {X : Type 0} (P : X → Type 0) (x : X) (xs : List X) (b : Bool) → P x → AllByRecursion P xs → AllByRecursion P (cond b (x ∷ xs) xs)
AllByRecursion-kept_if P x xs true here there = (here, there)
AllByRecursion-kept_if P x xs false here there = there

pub AllByRecursion-filter : {X : Type 0} (P : X → Type 0) (p : X → Bool) (xs : List X) → AllByRecursion P xs → AllByRecursion P (filter p xs)
AllByRecursion-filter P p [] all = tt
AllByRecursion-filter P p (x ∷ xs) all = AllByRecursion-kept_if P x (filter p xs) (p x) all.0 (AllByRecursion-filter P p xs all.1)

pub AllByRecursion-passed_if : {X : Type 0} (p : X → Bool) (x : X) (xs : List X) (b : Bool) → p x ≡ b → AllByRecursion (λ y. p y ≡ true) xs → AllByRecursion (λ y. p y ≡ true) (cond b (x ∷ xs) xs)
AllByRecursion-passed_if p x xs true here there = (here, there)
AllByRecursion-passed_if p x xs false here there = there

pub AllByRecursion-filter_passes : {X : Type 0} (p : X → Bool) (xs : List X) → AllByRecursion (λ x. p x ≡ true) (filter p xs)
AllByRecursion-filter_passes p [] = tt
AllByRecursion-filter_passes p (x ∷ xs) = AllByRecursion-passed_if p x (filter p xs) (p x) refl (AllByRecursion-filter_passes p xs)

pub AllByRecursion-enumerate_from : {X : Type 0} (P : X → Type 0) (i : ℕ) (xs : List X) → AllByRecursion P xs → AllByRecursion (λ (p : ℕ × X). P p.1) (enumerate_from i xs)
AllByRecursion-enumerate_from P i [] all = tt
AllByRecursion-enumerate_from P i (x ∷ xs) all = (all.0, AllByRecursion-enumerate_from P (i + 1) xs all.1)

pub AllByRecursion-flat_map : {X Y : Type 0} (P : Y → Type 0) (f : X → List Y) (xs : List X) → AllByRecursion (λ x. AllByRecursion P (f x)) xs → AllByRecursion P (flat_map f xs)
AllByRecursion-flat_map P f [] all = tt
AllByRecursion-flat_map P f (x ∷ xs) all = AllByRecursion-append P (f x) (flat_map f xs) all.0 (AllByRecursion-flat_map P f xs all.1)

pub AllByRecursion-from_flat_map : {X Y : Type 0} (P : Y → Type 0) (f : X → List Y) (xs : List X) → AllByRecursion P (flat_map f xs) → AllByRecursion (λ x. AllByRecursion P (f x)) xs
AllByRecursion-from_flat_map P f [] all = tt
AllByRecursion-from_flat_map P f (x ∷ xs) all = (AllByRecursion-left P (f x) (flat_map f xs) all, AllByRecursion-from_flat_map P f xs (AllByRecursion-right P (f x) (flat_map f xs) all))

pub AllByRecursion-from_map : {X Y : Type 0} (P : Y → Type 0) (f : X → Y) (xs : List X) → AllByRecursion P (map f xs) → AllByRecursion (λ x. P (f x)) xs
AllByRecursion-from_map P f [] all = tt
AllByRecursion-from_map P f (x ∷ xs) all = (all.0, AllByRecursion-from_map P f xs all.1)

pub AllByRecursion-from_list_all : {X : Type 0} (p : X → Bool) (xs : List X) → list_all p xs ≡ true → AllByRecursion (λ x. p x ≡ true) xs
AllByRecursion-from_list_all p [] e = tt
AllByRecursion-from_list_all p (x ∷ xs) e = let parts = and_parts _ _ e in (parts.0, AllByRecursion-from_list_all p xs parts.1)

pub AllByRecursion-map_within : {P : Type 0} (plain : P → P) (Q : P → Type 0) → ((p : P) → Q p → Q (plain p)) → (ps : List P) → AllByRecursion Q ps → AllByRecursion Q (map plain ps)
AllByRecursion-map_within plain Q one [] h = tt
AllByRecursion-map_within plain Q one (p ∷ ps) h = (one p h.0, AllByRecursion-map_within plain Q one ps h.1)
