-- States in two lists: those below a bound, and the others.
use Rattle.std.proofs.Common.{◌≡◌, ◌∙◌, ◌+◌, ◌<◌, ◌≤◌, ℕ, zero, suc, Bool, true, List, [], ◌∷◌, ◌++◌, All, AllPairs, ap, arith, filter, inl, inr, not, refl, sym}
use Rattle.std.proofs.lemmas.Bool.{cases_lt, cond-false, cond-true, le-ltb, lt-ltb}
use Rattle.std.proofs.lemmas.List.Elements.{All-head, All-tail, filter-append}
use Rattle.aut_base.proofs.order.AllPairsOf.{pairs_first, pairs_rest}
use Rattle.safra_trees.proofs.flat_step.Loops.{names_with}
use Rattle.safra_trees.proofs.list_step.Ranks.{rising_names}
use Rattle.safra_trees.specs.Flat.{IsSplit, is_high, is_low}
use Rattle.safra_trees.specs.inner.Names.{names_where}

-- one name more of those that pass another test too
pub filtered_names : (r p : ℕ → Bool) (k : ℕ) (xs ys : List ℕ) → p k ≡ true → xs ≡ filter r (names_where p k) → ys ≡ xs ++ filter r (k ∷ []) → ys ≡ filter r (names_where p (k + 1))
filtered_names r p k xs ys is before more =
    more ∙ (ap (λ vs. vs ++ filter r (k ∷ [])) before ∙ (sym (filter-append r (names_where p k) (k ∷ [])) ∙ ap (filter r) (sym (names_with p k is))))

none_low : (k : ℕ) (xs : List ℕ) → All (λ s. k ≤ s) xs → filter (is_low k) xs ≡ []
none_low k [] all = refl
none_low k (x ∷ xs) all =
    cond-false (is_low k x) (x ∷ filter (is_low k) xs) (filter (is_low k) xs) (le-ltb x k (All-head (λ s. k ≤ s) x xs all)) ∙ none_low k xs (All-tail (λ s. k ≤ s) x xs all)

all_high : (k : ℕ) (xs : List ℕ) → All (λ s. k ≤ s) xs → filter (is_high k) xs ≡ xs
all_high k [] all = refl
all_high k (x ∷ xs) all =
    cond-true (is_high k x) (x ∷ filter (is_high k) xs) (filter (is_high k) xs) (ap not (le-ltb x k (All-head (λ s. k ≤ s) x xs all)))
    ∙ ap (λ ys. x ∷ ys) (all_high k xs (All-tail (λ s. k ≤ s) x xs all))

from_first : (k x : ℕ) (xs : List ℕ) → k ≤ x → All (λ y. x < y) xs → All (λ s. k ≤ s) (x ∷ xs)
from_first k x xs first later zero d within = first
from_first k x xs first later (suc i) d within = (let more = later i d (omega (arith, within)) in omega (arith, more, first))

-- of rising numbers those below a bound come first
pub split_again : (k : ℕ) (xs : List ℕ) → AllPairs (λ a b. a < b) xs → filter (is_low k) xs ++ filter (is_high k) xs ≡ xs
split_again k [] up = refl
split_again k (x ∷ xs) up = elim (cases_lt x k) [
  | inl low ↦ (
      let is = lt-ltb x k low in
      ap (λ ys. ys ++ filter (is_high k) (x ∷ xs)) (cond-true (is_low k x) (x ∷ filter (is_low k) xs) (filter (is_low k) xs) is)
      ∙ (ap (λ ys. x ∷ (filter (is_low k) xs ++ ys)) (cond-false (is_high k x) (x ∷ filter (is_high k) xs) (filter (is_high k) xs) (ap not is))
      ∙ ap (λ ys. x ∷ ys) (split_again k xs (pairs_rest (λ a b. a < b) x xs up))))
  | inr high ↦ (let above = from_first k x xs high (pairs_first (λ a b. a < b) x xs up) in
      ap (λ ys. ys ++ filter (is_high k) (x ∷ xs)) (none_low k (x ∷ xs) above) ∙ all_high k (x ∷ xs) above)
]

-- the two lists of rising states
pub split_of : (k : ℕ) (xs low rest : List ℕ) → AllPairs (λ a b. a < b) xs → low ≡ filter (is_low k) xs → rest ≡ filter (is_high k) xs → low ++ rest ≡ xs
split_of k xs low rest up one two = ap (λ ys. ys ++ rest) one ∙ (ap (λ ys. filter (is_low k) xs ++ ys) two ∙ split_again k xs up)

pub is_split : (k : ℕ) (xs low rest : List ℕ) → AllPairs (λ a b. a < b) xs → low ≡ filter (is_low k) xs → rest ≡ filter (is_high k) xs → IsSplit k low rest
is_split k xs low rest up one two = record {
  low_are = one ∙ ap (filter (is_low k)) (sym (split_of k xs low rest up one two));
  rest_are = two ∙ ap (filter (is_high k)) (sym (split_of k xs low rest up one two));
}

-- and of names that pass a test
pub names_of_split : (k : ℕ) (p : ℕ → Bool) (n : ℕ) (low rest : List ℕ) → low ≡ filter (is_low k) (names_where p n) → rest ≡ filter (is_high k) (names_where p n) → low ++ rest ≡ names_where p n
names_of_split k p n low rest one two = split_of k (names_where p n) low rest (rising_names p n) one two

pub names_split : (k : ℕ) (p : ℕ → Bool) (n : ℕ) (low rest : List ℕ) → low ≡ filter (is_low k) (names_where p n) → rest ≡ filter (is_high k) (names_where p n) → IsSplit k low rest
names_split k p n low rest one two = is_split k (names_where p n) low rest (rising_names p n) one two

-- below 0 there is none
none_below : (xs : List ℕ) → filter (is_low 0) xs ≡ []
none_below [] = refl
none_below (x ∷ xs) = cond-false (is_low 0 x) (x ∷ filter (is_low 0) xs) (filter (is_low 0) xs) (le-ltb x 0 (omega arith)) ∙ none_below xs

pub none_narrow : (low rest : List ℕ) → IsSplit 0 low rest → low ++ rest ≡ rest
none_narrow low rest is = ap (λ ys. ys ++ rest) (is.low_are ∙ none_below (low ++ rest))
