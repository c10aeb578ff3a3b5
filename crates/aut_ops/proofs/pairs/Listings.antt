-- Listing pairs one by one, and their indices.
use Rattle.std.proofs.Common.{◌≡◌, ◌∙◌, ◌+◌, ◌<◌, ℕ, List, [], ◌∷◌, ◌++◌, Contains, Some, ap, append-nil, append_assoc, drop, get_or, length, map, refl, slice_get, subst, sym, take}
use Rattle.std.proofs.lemmas.Grind.{flat_map-append}
use Rattle.std.proofs.lemmas.List.{map-append}
use Rattle.std.proofs.lemmas.List.Elements.{Contains-append_left}
use Rattle.std.proofs.lemmas.List.Sums.{fold-append}
use Rattle.std.specs.Prelude.{flat_map}
use Rattle.aut_base.proofs.lists.ListTests.{zip_append}
use Rattle.aut_base.proofs.lists.Lists.{split-at, take-push}
use Rattle.exploration.proofs.Lists.{new_longer}
use Rattle.aut_ops.proofs.pairs.Pairings.{beyond_then, beyond_wider, longer_at}
use Rattle.exploration.specs.Turns.{with_new}
use Rattle.aut_ops.specs.Products.{same_pair}
use Rattle.aut_ops.specs.inner.Pairings.{AreBeyond, ArePairsListed, ArePlacesOfPairs, with_pairs}

pub places_longer : (old new rest : List (ℕ × ℕ)) (ks : List ℕ) (xs : List (ℕ × ℕ)) → new ≡ old ++ rest → ArePlacesOfPairs old ks xs → ArePlacesOfPairs new ks xs
places_longer old new rest [] [] is zip = tt
places_longer old new rest [] (x ∷ xs) is zip = absurd zip
places_longer old new rest (k ∷ ks) [] is zip = absurd zip
places_longer old new rest (k ∷ ks) (x ∷ xs) is zip = (longer_at old new rest k x is zip.0, places_longer old new rest ks xs is zip.1)

pub listed_none : (pairs : List (ℕ × ℕ)) (starts : List ℕ) → ArePairsListed pairs pairs starts starts []
listed_none pairs starts = record { pairs = refl; places = λ before are. subst (ArePlacesOfPairs pairs starts) (sym (append-nil before)) are }

pub listed_one : (old new : List (ℕ × ℕ)) (starts more : List ℕ) (place : ℕ) (x : ℕ × ℕ) → new ≡ with_new same_pair old x → slice_get new place ≡ Some x → more ≡ starts ++ place ∷ []
    → ArePairsListed old new starts more (x ∷ [])
listed_one old new starts more place x is at pushed =
    let long = new_longer same_pair old x in
    record {
      pairs = is;
      places = λ before are. subst (λ ks. ArePlacesOfPairs new ks (before ++ x ∷ [])) (sym pushed)
          (zip_append (λ k y. slice_get new k ≡ Some y) starts (place ∷ []) before (x ∷ []) (places_longer old new long.0 starts before (is ∙ long.1) are) (at, tt));
    }

pub listed_then : (r s t : List (ℕ × ℕ)) (ks ls ms : List ℕ) (xs ys : List (ℕ × ℕ)) → ArePairsListed r s ks ls xs → ArePairsListed s t ls ms ys → ArePairsListed r t ks ms (xs ++ ys)
listed_then r s t ks ls ms xs ys first second = record {
  pairs = second.pairs ∙ (ap (λ ps. with_pairs ps ys) first.pairs ∙ sym (fold-append (with_new same_pair) r xs ys));
  places = λ before are. subst (ArePlacesOfPairs t ms) (append_assoc before xs ys) (second.places (before ++ xs) (first.places before are));
}

-- where a prefix of what is listed has more pairs than the limit, the whole has
pub beyond_front : (most : ℕ) (pairs s front here rest all : List (ℕ × ℕ)) → s ≡ with_pairs pairs front → all ≡ front ++ (here ++ rest) → AreBeyond most s here → AreBeyond most pairs all
beyond_front most pairs s front here rest all listed whole beyond =
    let first = beyond_then most pairs front here (subst (λ ps. AreBeyond most ps here) listed beyond) in
    beyond_wider most pairs (front ++ here) all (λ x there. subst (λ ys. Contains ys x) (append_assoc front here rest ∙ sym whole) (Contains-append_left (front ++ here) rest x there)) first

-- another item of a row

module _ {X : Type 0} (f : X → ℕ × ℕ) (xs : List X) (i : ℕ) (x : X) (within : i < length xs) (is : x ≡ get_or xs i x) where
  pub row_next : map f (take (i + 1) xs) ≡ map f (take i xs) ++ f x ∷ []
  row_next = ap (map f) (take-push xs i x within is) ∙ map-append f (take i xs) (x ∷ [])

  pub row_whole : map f xs ≡ map f (take i xs) ++ ((f x ∷ []) ++ map f (drop (i + 1) xs))
  row_whole = ap (map f) (split-at xs i x within is) ∙ map-append f (take i xs) (x ∷ drop (i + 1) xs)

-- and another row

module _ {X : Type 0} (f : X → List (ℕ × ℕ)) (xs : List X) (i : ℕ) (x : X) (within : i < length xs) (is : x ≡ get_or xs i x) where
  pub rows_next : flat_map f (take (i + 1) xs) ≡ flat_map f (take i xs) ++ f x
  rows_next = ap (flat_map f) (take-push xs i x within is) ∙ (flat_map-append f (take i xs) (x ∷ []) ∙ ap (λ ys. flat_map f (take i xs) ++ ys) (append-nil (f x)))

  pub rows_whole : flat_map f xs ≡ flat_map f (take i xs) ++ (f x ++ flat_map f (drop (i + 1) xs))
  rows_whole = ap (flat_map f) (split-at xs i x within is) ∙ flat_map-append f (take i xs) (x ∷ drop (i + 1) xs)
