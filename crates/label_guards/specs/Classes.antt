-- Classes of what may hold, by the truths of a list of guards.
use Rattle.std.specs.Prelude.{◌≡◌, ◌↔◌, ℕ, ◌+◌, ◌<◌, ◌≤◌, Bool, true, List, [], length, map, Some, slice_get, All, AllPairs}
use Rattle.std.specs.Bool.{beq}
use Rattle.std.specs.List.{list_all}
use Rattle.aut_base.specs.Valuation.{IsLeast, holds_in, number_of, truth_on}
use Rattle.label_guards.specs.declared.guard.Guard.{Guard}
use Rattle.label_guards.specs.Guards.{truth_in}
use Rattle.label_guards.specs.Store.{Store, Has, Keeps, label_in, outcome}

-- each guard of the list has the same truth, whichever of the two says what holds
abbrev pub AreAlike : Store → List Guard → (ℕ → Bool) → (ℕ → Bool) → Type 0
AreAlike s list on also = All (λ g. truth_in s g on ≡ truth_in s g also) list

-- the guard at this place is true
abbrev pub MeetsAt : Store → List Guard → (ℕ → Bool) → ℕ → Type 0
MeetsAt s guards on place = slice_get (map (λ g. truth_in s g on) guards) place ≡ Some true

-- some valuation of the store's propositions meets the guard
pub record IsSatisfiable (s : Store) (g : Guard) : Type 0 where
  pub valuation : List Bool
  pub size : length valuation ≡ s.names
  pub truth : truth_on (label_in s g) valuation ≡ true

-- the least valuation that meets the one guard has a lesser number than the least that meets the other
pub record IsBefore (s : Store) (g h : Guard) : Type 0 where
  pub first : List Bool
  pub second : List Bool
  pub is_first : IsLeast s.names (truth_on (label_in s g)) first
  pub is_second : IsLeast s.names (truth_on (label_in s h)) second
  pub less : number_of first < number_of second

-- one guard for each class of what is alike under the list, in the order of their least valuations
pub record AreClasses (s : Store) (list : List Guard) (most : ℕ) (classes : List Guard) : Type 0 where
  pub has : All (Has s) classes
  pub few : length classes ≤ most
  pub met : All (IsSatisfiable s) classes
  pub every : (on : ℕ → Bool) → (place : ℕ) × MeetsAt s classes on place
  pub alike : (on also : ℕ → Bool) (i j : ℕ) → MeetsAt s classes on i → MeetsAt s classes also j → (i ≡ j) ↔ AreAlike s list on also
  pub ordered : AllPairs (IsBefore s) classes

-- one valuation more than `most`, no two of them alike under the list
pub record HasMoreLetterClasses (s : Store) (list : List Guard) (most : ℕ) : Type 0 where
  pub valuations : List (List Bool)
  pub count : length valuations ≡ most + 1
  pub sizes : All (λ v. length v ≡ s.names) valuations
  pub differ : AllPairs (λ v w. AreAlike s list (holds_in v) (holds_in w) → ⊥) valuations

-- There are at most `most` classes, or there are more, and not both.
abbrev pub ClassesExcludeMore : Type 0
ClassesExcludeMore = (old new : Store) (list : List Guard) (most : ℕ) (classes : List Guard) → Keeps old new → All (Has old) list → AreClasses new list most classes
    → HasMoreLetterClasses old list most → ⊥

-- The classes are determined, as a list of labels.
abbrev pub ClassesAreDetermined : Type 0
ClassesAreDetermined = (s : Store) (list : List Guard) (most more : ℕ) (classes others : List Guard) → AreClasses s list most classes → AreClasses s list more others
    → map (label_in s) classes ≡ map (label_in s) others

-- Under no guards, the one class is always true.
abbrev pub OneClassUnderNone : Type 0
OneClassUnderNone = (s : Store) (most : ℕ) (classes : List Guard) → AreClasses s [] most classes → (length classes ≡ 1) × All (λ g. (on : ℕ → Bool) → truth_in s g on ≡ true) classes

-- whether each guard of the list has the same truth at both
abbrev pub agree : Store → List Guard → (ℕ → Bool) → (ℕ → Bool) → Bool
agree s list on also = list_all (λ (g : Guard). beq (outcome s.nodes on g.place) (outcome s.nodes also g.place)) list
