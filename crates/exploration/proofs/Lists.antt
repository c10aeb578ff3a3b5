-- Lists to which states are added, by index.
use Rattle.std.proofs.Common.{◌≡◌, ◌∙◌, ◌⊎◌, ◌+◌, ◌<◌, ◌≤◌, ℕ, Bool, true, false, cond, List, [], ◌∷◌, ◌++◌, All, Some, ap, append_assoc, arith, get_or, inl, inr, length, length-append, refl}
use Rattle.std.proofs.Common.{slice_get, subst, sym}
use Rattle.std.proofs.lemmas.List.{append-nil}
use Rattle.std.proofs.lemmas.List.Elements.{All-push}
use Rattle.std.proofs.lemmas.Option.{slice_get-get_or, slice_get_within}
use Rattle.std.specs.List.{list_any}
use Rattle.aut_base.proofs.lists.Lists.{slice_get-append_left, slice_get-at}
use Rattle.exploration.specs.Turns.{with_new}

-- a state that is listed is not added again, and any other is added at the end
pub new_cases : {X : Type 0} (same : X → X → Bool) (xs : List X) (y : X) → ((list_any (same y) xs ≡ true) × (with_new same xs y ≡ xs)) ⊎
    ((list_any (same y) xs ≡ false) × (with_new same xs y ≡ xs ++ y ∷ []))
new_cases same xs y = by_cases (list_any (same y) xs) refl
  where
    by_cases : (b : Bool) → list_any (same y) xs ≡ b → ((list_any (same y) xs ≡ true) × (with_new same xs y ≡ xs)) ⊎ ((list_any (same y) xs ≡ false) × (with_new same xs y ≡ xs ++ y ∷ []))
    by_cases true e = inl (e, ap (λ (c : Bool). cond c xs (xs ++ y ∷ [])) e)
    by_cases false e = inr (e, ap (λ (c : Bool). cond c xs (xs ++ y ∷ [])) e)

pub new_longer : {X : Type 0} (same : X → X → Bool) (xs : List X) (y : X) → (rest : List X) × (with_new same xs y ≡ xs ++ rest)
new_longer same xs y = elim (new_cases same xs y) [
  | inl old ↦ ([], old.1 ∙ sym (append-nil xs))
  | inr new ↦ (y ∷ [], new.1)
]

pub new_all : {X : Type 0} (P : X → Type 0) (same : X → X → Bool) (xs : List X) (y : X) → All P xs → P y → All P (with_new same xs y)
new_all P same xs y all here = elim (new_cases same xs y) [
  | inl old ↦ subst (All P) (sym old.1) all
  | inr new ↦ subst (All P) (sym new.1) (All-push P xs y all here)
]

-- the second list continues the first
abbrev pub Longer : {X : Type 0} → List X → List X → Type 0
Longer {X} xs ys = (rest : List X) × (ys ≡ xs ++ rest)

pub longer_none : {X : Type 0} (xs : List X) → Longer xs xs
longer_none xs = ([], sym (append-nil xs))

pub longer_then : {X : Type 0} (xs ys zs : List X) → Longer xs ys → Longer ys zs → Longer xs zs
longer_then xs ys zs a b = (a.0 ++ b.0, b.1 ∙ (ap (λ (l : List _). l ++ b.0) a.1 ∙ append_assoc xs a.0 b.0))

pub longer_at : {X : Type 0} (xs ys : List X) (i : ℕ) (x : X) → Longer xs ys → slice_get xs i ≡ Some x → slice_get ys i ≡ Some x
longer_at xs ys i x a at = ap (λ (l : List _). slice_get l i) a.1 ∙ (slice_get-append_left xs a.0 i (slice_get_within xs i x at) ∙ at)

pub longer_length : {X : Type 0} (xs ys : List X) → Longer xs ys → length xs ≤ length ys
longer_length xs ys a =
    let e : length ys ≡ length xs + length a.0 = ap length a.1 ∙ length-append xs a.0 in
    omega (arith, e)

-- an item of the longer list at an index within the shorter one is that one's
pub longer_back : {X : Type 0} (xs ys : List X) (i : ℕ) (x : X) → Longer xs ys → i < length xs → slice_get ys i ≡ Some x → slice_get xs i ≡ Some x
longer_back xs ys i x a within at =
    let e = slice_get-get_or xs i x within in
    e ∙ (sym (longer_at xs ys i (get_or xs i x) a e) ∙ at)

-- an item that was read from a copy of the list
pub read_here : {X : Type 0} (xs ys : List X) (i : ℕ) (x : X) → xs ≡ ys → i < length ys → x ≡ get_or xs i x → slice_get ys i ≡ Some x
read_here xs ys i x same within e = slice_get-at ys i x within (e ∙ ap (λ (l : List _). get_or l i x) same)
