-- The index of a state in the list.
use Rattle.std.proofs.Common.{◌≡◌, ◌∙◌, ◌⊎◌, ◌+◌, ◌||◌, ℕ, suc, Bool, true, false, cond, not, List, [], ◌∷◌, ◌++◌, Some, ap, arith, get_or, inl, inr, length, refl, slice_get, sym}
use Rattle.std.proofs.lemmas.Bool.{true≢false}
use Rattle.std.proofs.lemmas.List.Folds.{list_any_at}
use Rattle.std.proofs.lemmas.Option.{get_or_from_slice_get, slice_get_within}
use Rattle.std.specs.List.{list_any, position_or_len}
use Rattle.aut_base.proofs.lists.Lists.{slice_get-push_cases, slice_get-push_last}
use Rattle.exploration.proofs.Lists.{new_cases}
use Rattle.exploration.specs.Turns.{with_new}

abbrev pub FoundAt : {X : Type 0} → (X → Bool) → List X → Type 0
FoundAt {X} p xs = (y : X) × (slice_get xs (position_or_len p xs) ≡ Some y) × (p y ≡ true)

pub found_at : {X : Type 0} (p : X → Bool) (xs : List X) → list_any p xs ≡ true → FoundAt p xs
found_at p [] e = absurd (true≢false (sym e))
found_at p (x ∷ xs) e = by_cases (p x) refl (found_at p xs)
  where
    by_cases : (b : Bool) → p x ≡ b → (list_any p xs ≡ true → FoundAt p xs) → FoundAt p (x ∷ xs)
    by_cases true is rest = (x, ap (λ (c : Bool). slice_get (x ∷ xs) (cond (not c) (1 + position_or_len p xs) 0)) is, is)
    by_cases false is rest =
        let later = rest (sym (ap (λ (c : Bool). c || list_any p xs) is) ∙ e) in
        let n : 1 + position_or_len p xs ≡ suc (position_or_len p xs) = omega arith in
        (later.0, ap (λ (c : Bool). slice_get (x ∷ xs) (cond (not c) (1 + position_or_len p xs) 0)) is ∙ (ap (slice_get (x ∷ xs)) n ∙ later.1), later.2)

pub absent_at : {X : Type 0} (p : X → Bool) (xs : List X) → list_any p xs ≡ false → position_or_len p xs ≡ length xs
absent_at p [] e = refl
absent_at p (x ∷ xs) e = by_cases (p x) refl (absent_at p xs)
  where
    by_cases : (b : Bool) → p x ≡ b → (list_any p xs ≡ false → position_or_len p xs ≡ length xs) → position_or_len p (x ∷ xs) ≡ length (x ∷ xs)
    by_cases true is rest = absurd (true≢false (sym (ap (λ (c : Bool). c || list_any p xs) is) ∙ e))
    by_cases false is rest =
        let later = rest (sym (ap (λ (c : Bool). c || list_any p xs) is) ∙ e) in
        let n : 1 + position_or_len p xs ≡ length (x ∷ xs) = omega (arith, later) in
        ap (λ (c : Bool). cond (not c) (1 + position_or_len p xs) 0) is ∙ n

module _ {X : Type 0} (same : X → X → Bool) (tells : (a b : X) → same a b ≡ true → a ≡ b) (itself : (a : X) → same a a ≡ true) where
  -- after a state is added unless it is there, it is at the index that was looked up for it
  pub new_place : (xs : List X) (y : X) → slice_get (with_new same xs y) (position_or_len (same y) xs) ≡ Some y
  new_place xs y = elim (new_cases same xs y) [
    | inl old ↦ (let f = found_at (same y) xs old.0 in ap (λ (l : List X). slice_get l (position_or_len (same y) xs)) old.1 ∙ (f.1 ∙ ap Some (sym (tells y f.0 f.2))))
    | inr new ↦ ap (λ (l : List X). slice_get l (position_or_len (same y) xs)) new.1 ∙ (ap (slice_get (xs ++ y ∷ [])) (absent_at (same y) xs new.0) ∙ slice_get-push_last xs y (length xs) refl)
  ]

  -- a state that isn't found is at no index
  pub not_there : (xs : List X) (y : X) (i : ℕ) → list_any (same y) xs ≡ false → slice_get xs i ≡ Some y → ⊥
  not_there xs y i none at =
      let e : same y (get_or xs i y) ≡ true = ap (same y) (get_or_from_slice_get xs i y y at) ∙ itself y in
      true≢false (sym (list_any_at (same y) xs i y (slice_get_within xs i y at) e) ∙ none)

  -- the items of a list after a state is added unless it is there
  pub new_at : (xs : List X) (y : X) (i : ℕ) (x : X) → slice_get (with_new same xs y) i ≡ Some x → (slice_get xs i ≡ Some x) ⊎ ((i ≡ length xs) × (y ≡ x) × (list_any (same y) xs ≡ false))
  new_at xs y i x at = elim (new_cases same xs y) [
    | inl old ↦ inl (sym (ap (λ (l : List X). slice_get l i) old.1) ∙ at)
    | inr new ↦ elim (slice_get-push_cases xs y i x (sym (ap (λ (l : List X). slice_get l i) new.1) ∙ at)) [
      | inl e ↦ inl e
      | inr e ↦ inr (e.0, e.1, new.0)
    ]
  ]

  pub new_once : (xs : List X) (y : X) → ((i j : ℕ) (x : X) → slice_get xs i ≡ Some x → slice_get xs j ≡ Some x → i ≡ j) → (i j : ℕ) (x : X) → slice_get (with_new same xs y) i ≡ Some x
      → slice_get (with_new same xs y) j ≡ Some x → i ≡ j
  new_once xs y once i j x a b = elim (new_at xs y i x a) [
    | inl e ↦ elim (new_at xs y j x b) [
      | inl f ↦ once i j x e f
      | inr f ↦ absurd (not_there xs y i f.2 (e ∙ ap Some (sym f.1)))
    ]
    | inr e ↦ elim (new_at xs y j x b) [
      | inl f ↦ absurd (not_there xs y j e.2 (f ∙ ap Some (sym e.1)))
      | inr f ↦ e.0 ∙ sym f.0
    ]
  ]
