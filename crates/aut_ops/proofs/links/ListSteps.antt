-- Appending the images of a list's items to another list, one by one.
use Rattle.std.proofs.Common.{◌≡◌, ◌∙◌, ◌+◌, ◌<◌, ◌≤◌, ℕ, zero, suc, Bool, true, false, cond, filter, List, [], ◌∷◌, ◌++◌, ap}
use Rattle.std.proofs.Common.{append_assoc, arith, get_or, length, map, sym, take}
use Rattle.std.proofs.lemmas.List.{map-append}
use Rattle.aut_base.proofs.lists.Lists.{take-push}

pub map_more : {X Y : Type 0} (f : X → Y) (start old new : List Y) (xs : List X) (i : ℕ) (x : X) (y : Y) → i < length xs → x ≡ get_or xs i x → old ≡ start ++ map f (take i xs) → y ≡ f x
    → new ≡ old ++ y ∷ [] → new ≡ start ++ map f (take (i + 1) xs)
map_more f start old new xs i x y within is so_far same pushed =
    pushed ∙ (ap (λ ys. ys ++ y ∷ []) so_far ∙ (append_assoc start (map f (take i xs)) (y ∷ [])
    ∙ ap (λ ys. start ++ ys) (ap (λ z. map f (take i xs) ++ z ∷ []) same ∙ (sym (map-append f (take i xs) (x ∷ [])) ∙ sym (ap (map f) (take-push xs i x within is))))))

-- of the first i items at most i are kept
pub kept_within : {X : Type 0} (p : X → Bool) (xs : List X) (i : ℕ) → length (filter p (take i xs)) ≤ i
kept_within p xs zero = omega arith
kept_within p [] (suc i) = omega arith
kept_within p (x ∷ xs) (suc i) = by_cases (p x) (kept_within p xs i)
  where
    by_cases : (b : Bool) → length (filter p (take i xs)) ≤ i → length (cond b (x ∷ filter p (take i xs)) (filter p (take i xs))) ≤ suc i
    by_cases true rest = omega (arith, rest)
    by_cases false rest = omega (arith, rest)
