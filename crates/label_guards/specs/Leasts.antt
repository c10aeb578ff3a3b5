-- The least valuation that meets a place, by its number.
use Rattle.std.specs.Prelude.{◌≡◌, ℕ, zero, suc, ◌+◌, ◌/◌, ◌%◌, ◌<◌, ◌≤◌, min, Bool, true, false, List, [], ◌∷◌, ◌++◌, drop, length, Option, Some, None, MatchOption, nat_eq}
use Rattle.std.specs.FinSet as set
use Rattle.aut_base.specs.Valuation.{IsLeast, holds_in, letter_of, names_on, number_of, truth_on}
use Rattle.aut_base.specs.Word.{NameSet}
use Rattle.label_guards.specs.declared.guard.Guard.{Guard}
use Rattle.label_guards.specs.Guards.{IsNeverMet}
use Rattle.label_guards.specs.Nodes.{level}
use Rattle.label_guards.specs.Store.{Store, HasPlace, label_in, outcome}

-- the letter of the least valuation that meets the guard
pub record IsLeastLetter (s : Store) (names : List (List ℕ)) (g : Guard) (letter : NameSet) : Type 0 where
  pub valuation : List Bool
  pub least : IsLeast s.names (truth_on (label_in s g)) valuation
  pub letter_of : letter ≡ letter_of names valuation

-- no valuation meets the place
abbrev pub IsNeverMetAt : Store → ℕ → Type 0
IsNeverMetAt s place = (v : List Bool) → length v ≡ s.names → outcome s.nodes (holds_in v) place ≡ false

-- The number of some valuation that meets the place. No proposition holds in it that comes before the first one that is asked
-- for.
pub record IsMetAt (s : Store) (place number : ℕ) : Type 0 where
  pub valuation : List Bool
  pub size : length valuation ≡ s.names
  pub is_number : number_of valuation ≡ number
  pub truth : outcome s.nodes (holds_in valuation) place ≡ true
  pub bare : (i : ℕ) → i < level s place → holds_in valuation i ≡ false

-- the number of the least valuation that meets the place
pub record IsLeastNumber (s : Store) (place number : ℕ) : Type 0 where
  pub met : IsMetAt s place number
  pub least : (w : List Bool) → length w ≡ s.names → outcome s.nodes (holds_in w) place ≡ true → number ≤ number_of w

abbrev pub IsLeastAt : Store → ℕ → Option ℕ → Type 0
IsLeastAt s place found = MatchOption found (IsNeverMetAt s place) (IsLeastNumber s place)

-- the same, of a place that the store has
pub record IsLeastOf (s : Store) (place : ℕ) (found : Option ℕ) : Type 0 where
  pub has : HasPlace s place
  pub least : IsLeastAt s place found

-- the valuation of this number
abbrev pub bits_of : ℕ → ℕ → List Bool
bits_of zero number = []
bits_of (suc n) number = nat_eq (number % 2) 1 ∷ bits_of n (number / 2)

-- the number of the least valuation that meets the guard, by its label
abbrev pub IsLeastIn : Store → Guard → Option ℕ → Type 0
IsLeastIn s g found = MatchOption found (IsNeverMet s g) (λ number. IsLeast s.names (truth_on (label_in s g)) (bits_of s.names number))

-- the lesser of two numbers, where the second is by this much more
abbrev pub lesser_of : ℕ → Option ℕ → Option ℕ → Option ℕ
lesser_of weight None None = None
lesser_of weight None (Some b) = Some (b + weight)
lesser_of weight (Some a) None = Some a
lesser_of weight (Some a) (Some b) = Some (min a (b + weight))

-- the names before this place make the letter so far, and what is left of the number gives the others
pub record IsLetterSoFar (names : List (List ℕ)) (number place rest : ℕ) (letter : NameSet) : Type 0 where
  pub done : List (List ℕ)
  pub so_far : letter ≡ set.from_list done
  pub left : names_on names (bits_of (length names) number) ≡ done ++ names_on (drop place names) (bits_of (length (drop place names)) rest)
