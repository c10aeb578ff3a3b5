-- For each valuation there is a letter at which the same propositions hold, and for each letter such a valuation.
use Rattle.std.proofs.Common.{⊎_elim, ◌≡◌, ◌≢◌, ◌∙◌, ℕ, zero, suc, ◌<◌, ◌≤◌, Bool, true, false, ◌||◌, List, [], ◌∷◌, length, map, get_or, Some, slice_get, AllPairs, refl, sym, ap, arith}
use Rattle.std.proofs.lemmas.Bool.{cases_lt, cases_order, false_from_ne_true}
use Rattle.std.proofs.lemmas.Cmp.{nat_list_cmp_total, eq_by_cmp_equiv}
use Rattle.std.proofs.lemmas.Map.Lookups.{exact_bytes}
use Rattle.std.proofs.lemmas.Map.Views.{tells_apart}
use Rattle.std.proofs.lemmas.Option.{slice_get-get_or, slice_get_past, none-some, same_Some, get_or_from_slice_get, slice_get_within}
use Rattle.std.proofs.lemmas.List.{get_or_past}
use Rattle.std.specs.FinSet as set
use Rattle.std.specs.List.{list_any}
use Rattle.std.specs.Option.{option_map_or}
use Rattle.aut_base.proofs.words.LetterNames.{same_name}
use Rattle.aut_base.specs.Label.{holds_at}
use Rattle.aut_base.specs.Valuation.{holds_in, letter_of, names_on}
use Rattle.aut_base.specs.Word.{NameSet}

-- where no name passes the test, none of those that hold does
none_on : (p : List ℕ → Bool) (names : List (List ℕ)) (v : List Bool) → ((k : ℕ) (name : List ℕ) → slice_get names k ≡ Some name → p name ≡ false) → list_any p (names_on names v) ≡ false
none_on p [] v fails = refl
none_on p (x ∷ xs) [] fails = refl
none_on p (x ∷ xs) (false ∷ v) fails = none_on p xs v (λ k. fails (suc k))
none_on p (x ∷ xs) (true ∷ v) fails =
    let first : p x ≡ false = fails 0 x refl in let rest = none_on p xs v (λ k. fails (suc k)) in rw first rest

-- where only the name at index i passes it, one of those that hold does exactly where proposition i holds
one_on : (p : List ℕ → Bool) (names : List (List ℕ)) (v : List Bool) (i : ℕ) (name : List ℕ) → slice_get names i ≡ Some name → p name ≡ true
    → ((k : ℕ) (other : List ℕ) → k ≢ i → slice_get names k ≡ Some other → p other ≡ false) → list_any p (names_on names v) ≡ holds_in v i
one_on p [] v i name is passes fails = absurd (none-some name is)
one_on p (x ∷ xs) [] zero name is passes fails = refl
one_on p (x ∷ xs) [] (suc i) name is passes fails = refl
one_on p (x ∷ xs) (false ∷ v) zero name is passes fails = none_on p xs v (λ k other at. fails (suc k) other (λ e. absurd (omega arith)) at)
one_on p (x ∷ xs) (true ∷ v) zero name is passes fails =
    ap (λ b. b || list_any p (names_on xs v)) (ap p (same_Some x name is) ∙ passes)
one_on p (x ∷ xs) (false ∷ v) (suc i) name is passes fails = one_on p xs v i name is passes (λ k other apart at. fails (suc k) other (λ e. apart (omega arith)) at)
one_on p (x ∷ xs) (true ∷ v) (suc i) name is passes fails =
    ap (λ b. b || list_any p (names_on xs v)) (fails 0 x (λ e. absurd (omega arith)) refl) ∙ one_on p xs v i name is passes (λ k other apart at. fails (suc k) other (λ e. apart (omega arith)) at)

apart_at : (names : List (List ℕ)) → AllPairs (λ p q. p ≢ q) names → (i k : ℕ) (name other : List ℕ) → k ≢ i → slice_get names i ≡ Some name → slice_get names k ≡ Some other → name ≢ other
apart_at names differ i k name other away at there e =
    let here : get_or names i name ≡ name = get_or_from_slice_get names i name name at in
    let over : get_or names k name ≡ other = get_or_from_slice_get names k other name there in
    ⊎_elim (λ (same : i ≡ k). away (sym same))
    (⊎_elim (λ (less : i < k). differ i k name less (slice_get_within names k other there) cc) (λ (less : k < i). differ k i name less (slice_get_within names i name at) cc)) (cases_order i k)

-- the propositions that hold at the letter of a valuation are those of the valuation
pub letter_of_holds : (names : List (List ℕ)) (v : List Bool) (i : ℕ) → AllPairs (λ p q. p ≢ q) names → length v ≡ length names → holds_at names (letter_of names v) i ≡ holds_in v i
letter_of_holds names v i differ long = ⊎_elim within past (cases_lt i (length names))
  where
    within : i < length names → holds_at names (letter_of names v) i ≡ holds_in v i
    within less =
        let name = get_or names i [] in
        let is : slice_get names i ≡ Some name = slice_get-get_or names i [] less in
        let others : (k : ℕ) (other : List ℕ) → k ≢ i → slice_get names k ≡ Some other → same_name name other ≡ false =
        λ k other away there. false_from_ne_true (same_name name other) (λ e. apart_at names differ i k name other away is there (tells_apart exact_bytes name other e)) in
        ap (λ o. option_map_or (set.contains (letter_of names v)) o false) is
        ∙ (set.contains-from_list nat_list_cmp_total (names_on names v) name ∙ one_on (same_name name) names v i name is ((eq_by_cmp_equiv nat_list_cmp_total).refl name) others)

    past : length names ≤ i → holds_at names (letter_of names v) i ≡ holds_in v i
    past more =
        ap (λ o. option_map_or (set.contains (letter_of names v)) o false) (slice_get_past names i more) ∙ sym (get_or_past v i false (omega arith))

-- the valuation of a letter
abbrev pub valuation_at : List (List ℕ) → NameSet → List Bool
valuation_at names letter = map (set.contains letter) names

pub valuation_at_holds : (names : List (List ℕ)) (letter : NameSet) (i : ℕ) → holds_at names letter i ≡ holds_in (valuation_at names letter) i
valuation_at_holds [] letter i = refl
valuation_at_holds (name ∷ names) letter zero = refl
valuation_at_holds (name ∷ names) letter (suc i) = valuation_at_holds names letter i
