-- Appending an item to a list, and setting a flag.
use Rattle.std.proofs.Common.{◌≡◌, ◌∙◌, ◌≢◌, ℕ, ◌<◌, ◌≤◌, ◌⊎◌, inl, inr, ⊎_elim, Bool, true, false, List, [], ◌∷◌, ◌++◌, length, get_or, set, refl, sym, ap, arith, get_or-set_same, get_or-set_other}
use Rattle.std.proofs.lemmas.Bool.{cases_lt, cases_eq, false≢true}
use Rattle.std.proofs.lemmas.List.{get_or_append_left, get_or_push, get_or_past, get_or_read, length_push}
use Rattle.graph_walk.specs.inner.Places.{At, flag}

pub at_kept : (xs : List ℕ) (y i x : ℕ) → At xs i x → At (xs ++ y ∷ []) i x
at_kept xs y i x at = (omega (arith, length_push xs y), get_or_append_left xs (y ∷ []) 0 i at.0 ∙ at.1)

pub at_end : (xs : List ℕ) (y : ℕ) → At (xs ++ y ∷ []) (length xs) y
at_end xs y = (omega (arith, length_push xs y), get_or_push xs y 0 (length xs) refl)

pub at_before : (xs : List ℕ) (y i x : ℕ) → i < length xs → At (xs ++ y ∷ []) i x → At xs i x
at_before xs y i x within at = (within, sym (get_or_append_left xs (y ∷ []) 0 i within) ∙ at.1)

pub at_cases : (xs : List ℕ) (y i x : ℕ) → At (xs ++ y ∷ []) i x → At xs i x ⊎ ((i ≡ length xs) × (x ≡ y))
at_cases xs y i x at =
    ⊎_elim (λ (lt : i < length xs). inl (at_before xs y i x lt at))
    (λ (le : length xs ≤ i).
    let last : i ≡ length xs = omega (arith, length_push xs y) in
    inr (last, sym at.1 ∙ (ap (λ k. get_or (xs ++ y ∷ []) k 0) last ∙ get_or_push xs y 0 (length xs) refl)))
    (cases_lt i (length xs))

-- the item that was read at an index
pub at_read : (xs : List ℕ) (i x : ℕ) → i < length xs → x ≡ get_or xs i x → At xs i x
at_read xs i x within read = (within, sym (get_or_read xs i x within read 0))

pub at_same : (xs : List ℕ) (i x y : ℕ) → At xs i x → At xs i y → x ≡ y
at_same xs i x y here there = sym here.1 ∙ there.1

pub flag_within : (flags : List Bool) (x : ℕ) → flag flags x ≡ true → x < length flags
flag_within flags x h =
    ⊎_elim (λ (lt : x < length flags). lt)
    (λ (le : length flags ≤ x). absurd (false≢true (sym (get_or_past flags x false le) ∙ h)))
    (cases_lt x (length flags))

pub flag_set : (flags : List Bool) (w : ℕ) → w < length flags → flag (set flags w true) w ≡ true
flag_set flags w within = get_or-set_same flags w true false within

pub flag_kept : (flags : List Bool) (w x : ℕ) → w < length flags → flag flags x ≡ true → flag (set flags w true) x ≡ true
flag_kept flags w x within h =
    ⊎_elim (λ (same : x ≡ w). ap (flag (set flags w true)) same ∙ flag_set flags w within)
    (λ (other : x ≢ w). get_or-set_other flags w x true false other ∙ h)
    (cases_eq x w)

pub flag_cases : (flags : List Bool) (w x : ℕ) → flag (set flags w true) x ≡ true → (flag flags x ≡ true) ⊎ (x ≡ w)
flag_cases flags w x h =
    ⊎_elim (λ (same : x ≡ w). inr same)
    (λ (other : x ≢ w). inl (sym (get_or-set_other flags w x true false other) ∙ h))
    (cases_eq x w)
