-- Lists of states, and the lists of what contracts see of them.
use Rattle.std.proofs.Common.{◌≡◌, ◌∙◌, ◌↔◌, ◌||◌, ◌+◌, ◌<◌, ◌≤◌, ℕ, Bool, true, false, cond, not, List, [], ◌∷◌, ◌++◌, Some, ap, arith, get_or, length, ltb, map, refl, slice_get, sym}
use Rattle.std.proofs.lemmas.List.{length-map, map-append}
use Rattle.std.proofs.lemmas.Option.{slice_get-map}
use Rattle.std.specs.List.{list_any, position_or_len}
use Rattle.std.specs.Option.{option_map}
use Rattle.aut_base.proofs.lists.Lists.{list_any-map}
use Rattle.aut_base.proofs.numbers.Truth.{same_truth}
use Rattle.exploration.proofs.Lists.{Longer, longer_length, read_here}
use Rattle.exploration.specs.Turns.{has_room, with_new}

pub position-map : {T X : Type 0} (p : X → Bool) (f : T → X) (xs : List T) → position_or_len p (map f xs) ≡ position_or_len (λ x. p (f x)) xs
position-map p f [] = refl
position-map p f (x ∷ xs) = ap (λ (n : ℕ). cond (not (p (f x))) (1 + n) 0) (position-map p f xs)

-- what is seen of an item that was read from a copy of the list
pub read_seen : {T X : Type 0} (seen : T → X) (xs ys : List T) (i : ℕ) (x : T) → xs ≡ ys → i < length ys → x ≡ get_or xs i x → slice_get (map seen ys) i ≡ Some (seen x)
read_seen seen xs ys i x same within e = slice_get-map seen ys i ∙ ap (option_map seen) (read_here xs ys i x same within e)

pub within_seen : {T X : Type 0} (seen : T → X) (xs : List T) (i : ℕ) → i < length xs → i < length (map seen xs)
within_seen seen xs i within = omega (arith, within, length-map xs seen)

pub past_seen : {T X : Type 0} (seen : T → X) (xs : List T) (n : ℕ) → length xs ≤ n → length (map seen xs) ≤ n
past_seen seen xs n past = omega (arith, past, length-map xs seen)

-- the same of a list that continues another
pub read_longer : {T X : Type 0} (seen : T → X) (copy xs ys : List T) (i : ℕ) (x : T) → Longer (map seen xs) (map seen ys) → i < length xs → copy ≡ ys → x ≡ get_or copy i x
    → slice_get (map seen ys) i ≡ Some (seen x)
read_longer seen copy xs ys i x longer within same e =
    let far = longer_length (map seen xs) (map seen ys) longer in
    read_seen seen copy ys i x same (omega (arith, within, far, length-map xs seen, length-map ys seen)) e

module _ {T X : Type 0} (eq : T → T → Bool) (same : X → X → Bool) (seen : T → X) (tells : (a b : T) → (eq a b ≡ true) ↔ (seen a ≡ seen b)) (same_tells : (x y : X) → (same x y ≡ true) ↔ (x ≡ y)) where
  tests_alike : (y : T) → eq y ≡ λ z. same (seen y) (seen z)
  tests_alike y = λ i. λ z. same_truth (eq y z) (same (seen y) (seen z)) (λ e. (same_tells (seen y) (seen z)).1 ((tells y z).0 e)) (λ e. (tells y z).1 ((same_tells (seen y) (seen z)).0 e)) i

  any_seen : (y : T) (xs : List T) → list_any (eq y) xs ≡ list_any (same (seen y)) (map seen xs)
  any_seen y xs = ap (λ (p : T → Bool). list_any p xs) (tests_alike y) ∙ sym (list_any-map (same (seen y)) seen xs)

  pub place_seen : (y : T) (xs : List T) → position_or_len (eq y) xs ≡ position_or_len (same (seen y)) (map seen xs)
  place_seen y xs = ap (λ (p : T → Bool). position_or_len p xs) (tests_alike y) ∙ sym (position-map (same (seen y)) seen xs)

  pub room_seen : (most : ℕ) (y : T) (xs : List T) → has_room eq most xs y ≡ has_room same most (map seen xs) (seen y)
  room_seen most y xs = λ i. any_seen y xs i || ltb (sym (length-map xs seen) i) most

  pub new_seen : (y : T) (xs : List T) → map seen (with_new eq xs y) ≡ with_new same (map seen xs) (seen y)
  new_seen y xs = by_cases (list_any (eq y) xs) (any_seen y xs)
    where
      by_cases : (b : Bool) → b ≡ list_any (same (seen y)) (map seen xs) → map seen (cond b xs (xs ++ y ∷ [])) ≡ with_new same (map seen xs) (seen y)
      by_cases true e = ap (λ (c : Bool). cond c (map seen xs) (map seen xs ++ seen y ∷ [])) e
      by_cases false e = map-append seen xs (y ∷ []) ∙ ap (λ (c : Bool). cond c (map seen xs) (map seen xs ++ seen y ∷ [])) e
