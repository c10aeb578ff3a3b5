-- A table of the results of one call, by the places that it went through.
use Rattle.std.specs.Prelude.{◌≡◌, ◌⊎◌, ℕ, ◌<◌, ◌≤◌, Bool, true, false, cond, List, Some, nat_eq}
use Rattle.std.specs.List.{slice_index_or}
use Rattle.std.specs.Map.{lookup}
use Rattle.label_guards.specs.Guards.{with_prop}
use Rattle.label_guards.specs.Nodes.{level}
use Rattle.label_guards.specs.Store.{Store, HasPlace, outcome}

-- the table with one result more
abbrev pub IsResultInserted : {V : Type 0} → List (ℕ × V) → List (ℕ × V) → ℕ → V → Type 0
IsResultInserted old new place found = (q : ℕ) → lookup (nat_eq q) new ≡ cond (nat_eq place q) (Some found) (lookup (nat_eq q) old)

-- each result of the table is right
abbrev pub AreDone : {V : Type 0} → (ℕ → V → Type 0) → List (ℕ × V) → Type 0
AreDone {V} IsRight entries = (place : ℕ) (found : V) → lookup (nat_eq place) entries ≡ Some found → IsRight place found

-- what a place gives where one proposition is set
pub record IsFixedAt (s : Store) (prop : ℕ) (value : Bool) (place found : ℕ) : Type 0 where
  pub from : HasPlace s place
  pub has : HasPlace s found
  pub later : level s place ≤ level s found
  pub truth : (on : ℕ → Bool) → outcome s.nodes on found ≡ outcome s.nodes (with_prop on prop value) place

-- what a place of another store is in this one, where proposition k is the one at place k of the list
pub record IsBrought (other s : Store) (places : ℕ → ℕ) (place found : ℕ) : Type 0 where
  pub has : HasPlace s found
  pub truth : (on : ℕ → Bool) → outcome s.nodes on found ≡ outcome other.nodes (λ k. on (places k)) place

-- the table has what places of another store are in this one, where proposition k is the one at place k of the list
pub record AreBrought (other s : Store) (to : List ℕ) (entries : List (ℕ × ℕ)) : Type 0 where
  pub done : AreDone (IsBrought other s (λ k. slice_index_or to k 0)) entries

-- the truth at a place is the same whether the proposition holds or not
abbrev pub IsFreeAt : Store → ℕ → ℕ → Type 0
IsFreeAt s place prop = (on : ℕ → Bool) → outcome s.nodes (with_prop on prop true) place ≡ outcome s.nodes (with_prop on prop false) place

-- each proposition on which the truth at a place depends is taken to a number below `count`
abbrev pub PlaceGoesBelow : ℕ → (ℕ → ℕ) → Store → ℕ → Type 0
PlaceGoesBelow count to s place = (prop : ℕ) → prop < s.names → (to prop < count) ⊎ IsFreeAt s place prop
