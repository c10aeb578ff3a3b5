-- What is kept of the letter whose guard was made last (HOA v1, implicit labels).
use Rattle.std.specs.Prelude.{◌≡◌, ℕ, ◌+◌, ◌≤◌, Bool, List, length, Some, slice_get}
use Rattle.label_guards.specs.Guards.{truth_in}
use Rattle.label_guards.specs.Numbers.{last_at}
use Rattle.label_guards.specs.Store.{Has, Store}

-- the number of the letter, and places of its store: the first of the last proposition alone, the next of the last two, and so on
pub record LastLetter : Type 0 where
  pub number : ℕ
  pub places : List ℕ

-- the place is true just where so many of the last propositions are as in the number
pub record IsLastPlace (s : Store) (number count place : ℕ) : Type 0 where
  pub has : Has s (record { place = place })
  pub truth : (on : ℕ → Bool) → truth_in s (record { place = place }) on ≡ last_at number s.names count on

-- each place is that of its last propositions
pub record AreLastPlaces (s : Store) (l : LastLetter) : Type 0 where
  pub few : length l.places ≤ s.names
  pub last : (k place : ℕ) → slice_get l.places k ≡ Some place → IsLastPlace s l.number (k + 1) place
