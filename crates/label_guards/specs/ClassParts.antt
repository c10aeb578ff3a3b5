-- The parts into which a list of guards splits what may hold, each with the number of its least valuation.
use Rattle.std.specs.Prelude.{◌≡◌, ◌⊎◌, ℕ, ◌≤◌, Bool, true, not, ◌&&◌, List, [], ◌∷◌, ◌++◌, All, Some, count_by, length, map, slice_get, slice_set, take}
use Rattle.std.specs.Bool.{beq}
use Rattle.std.specs.List.Sorted.{IsNonDecreasingBy, IsPermutation}
use Rattle.aut_base.specs.Valuation.{holds_in, number_of}
use Rattle.label_guards.specs.declared.classes.Part.{Part}
use Rattle.label_guards.specs.declared.guard.Guard.{Guard}
use Rattle.label_guards.specs.Classes.{agree}
use Rattle.label_guards.specs.Leasts.{IsLeastNumber, bits_of}
use Rattle.label_guards.specs.Operations.{IsPlaceOf}
use Rattle.label_guards.specs.Store.{Store, outcome}

-- whether two are in one class
abbrev pub Test : Type 0
Test = (ℕ → Bool) → (ℕ → Bool) → Bool

-- the test says so of each and itself, and of all that are in one class or of none
pub record IsAlikeness (alike : Test) : Type 0 where
  pub self : (on : ℕ → Bool) → alike on on ≡ true
  pub same : (on also : ℕ → Bool) → alike on also ≡ true → (other : ℕ → Bool) → alike other on ≡ alike other also

-- those that are alike, and at which this place has the same truth
abbrev pub also_by : Store → Test → ℕ → Test
also_by s alike by on also = alike on also && beq (outcome s.nodes on by) (outcome s.nodes also by)

-- the least valuation of its class
pub record IsFirst (n : ℕ) (alike : Test) (v : List Bool) : Type 0 where
  pub size : length v ≡ n
  pub least : (w : List Bool) → length w ≡ n → alike (holds_in v) (holds_in w) ≡ true → number_of v ≤ number_of w

-- The number is that of the least valuation of a class, and the place is true of that class.
pub record IsClassPart (s : Store) (alike : Test) (part : Part) : Type 0 where
  pub number : number_of (bits_of s.names part.number) ≡ part.number
  pub first : IsFirst s.names alike (bits_of s.names part.number)
  pub is : IsPlaceOf s (alike (holds_in (bits_of s.names part.number))) part.place

-- Each is a part, and of whatever may hold exactly one is true.
pub record AreClassParts (s : Store) (alike : Test) (parts : List Part) : Type 0 where
  pub each : All (IsClassPart s alike) parts
  pub one : (on : ℕ → Bool) → count_by (λ (part : Part). outcome s.nodes on part.place) parts ≡ 1

-- The parts are those of the first guards of the list, and of all of it where there are no more than `most`.
pub record AreSplit (old s : Store) (list : List Guard) (most : ℕ) (parts : List Part) : Type 0 where
  pub count : ℕ
  pub are : AreClassParts s (agree old (take count list)) parts
  pub all : length parts ≤ most → take count list ≡ list

-- the guard has this truth wherever the place is true
abbrev pub HasSide : Store → ℕ → ℕ → Bool → Type 0
HasSide s place by side = (on : ℕ → Bool) → outcome s.nodes on place ≡ true → outcome s.nodes on by ≡ side

-- it has the same truth there
pub record IsOneSided (s : Store) (place by : ℕ) : Type 0 where
  pub side : Bool
  pub same : HasSide s place by side

-- the truth of the guard at the least valuation of the part
abbrev pub side_of : Store → Part → ℕ → Bool
side_of s part by = outcome s.nodes (holds_in (bits_of s.names part.number)) by

-- Of where the part is true, the one place has those at which the guard is as at the least valuation, and the other the rest.
pub record AreHalves (old s : Store) (part : Part) (by kept rest : ℕ) : Type 0 where
  pub is_kept : IsPlaceOf s (λ on. outcome old.nodes on part.place && beq (side_of old part by) (outcome old.nodes on by)) kept
  pub is_rest : IsPlaceOf s (λ on. outcome old.nodes on part.place && beq (not (side_of old part by)) (outcome old.nodes on by)) rest

-- The part at the index isn't split.
pub record IsUnsplit (old : Store) (before after : List Part) (index by : ℕ) : Type 0 where
  pub part : Part
  pub was : slice_get before index ≡ Some part
  pub one_sided : IsOneSided old part.place by
  pub unchanged : after ≡ before

-- The part at the index is split: one half keeps its number and its index, the other is added under its own number.
pub record IsHalved (old s : Store) (before after : List Part) (index by : ℕ) : Type 0 where
  pub part : Part
  pub was : slice_get before index ≡ Some part
  pub kept : ℕ
  pub rest : Part
  pub halves : AreHalves old s part by kept rest.place
  pub least : IsLeastNumber s rest.place rest.number
  pub made : after ≡ slice_set (before ++ rest ∷ []) index (record { number = part.number; place = kept })

abbrev pub IsPartSplit : Store → Store → List Part → List Part → ℕ → ℕ → Type 0
IsPartSplit old s before after index by = IsUnsplit old before after index by ⊎ IsHalved old s before after index by

-- the guard of a part
abbrev pub guard_of : Part → Guard
guard_of part = record { place = part.place }

-- the guards of these parts, in the order of their numbers
pub record ArePartsInOrder (parts : List Part) (classes : List Guard) : Type 0 where
  pub sorted : List Part
  pub same : IsPermutation parts sorted
  pub order : IsNonDecreasingBy (λ (part : Part). part.number) sorted
  pub are : classes ≡ map guard_of sorted
