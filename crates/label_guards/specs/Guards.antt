-- What is said of the guards of a store, by their labels alone.
use Rattle.std.specs.Prelude.{◌≡◌, ◌≢◌, ◌⊎◌, ℕ, ◌<◌, Bool, true, false, not, List, length, AllPairs, if◌then◌else◌, nat_eq}
use Rattle.aut_base.specs.Label.{truth, holds_at}
use Rattle.aut_base.specs.Valuation.{truth_on}
use Rattle.aut_base.specs.Word.{NameSet}
use Rattle.label_guards.specs.declared.guard.Guard.{Guard}
use Rattle.label_guards.specs.Store.{Store, Has, label_in}

-- the truth of a guard's label, where `on` says which propositions hold
abbrev pub truth_in : Store → Guard → (ℕ → Bool) → Bool
truth_in s g on = truth on (label_in s g)

-- the guard that is true where this says
pub record IsGuardOf (s : Store) (says : (ℕ → Bool) → Bool) (g : Guard) : Type 0 where
  pub has : Has s g
  pub truth : (on : ℕ → Bool) → truth_in s g on ≡ says on

-- the proposition holds, or it is one that should fail and does
abbrev pub literal_truth : ℕ → Bool → (ℕ → Bool) → Bool
literal_truth prop holds on = if holds then on prop else not (on prop)

-- no valuation of the store's propositions meets the guard
abbrev pub IsNeverMet : Store → Guard → Type 0
IsNeverMet s g = (v : List Bool) → length v ≡ s.names → truth_on (label_in s g) v ≡ false

-- the guards have the same truth on each valuation
abbrev pub AreMetAlike : Store → Guard → Guard → Type 0
AreMetAlike s g h = (v : List Bool) → length v ≡ s.names → truth_on (label_in s g) v ≡ truth_on (label_in s h) v

-- names for the store's propositions
abbrev pub AreNames : Store → List (List ℕ) → Type 0
AreNames s names = (length names ≡ s.names) × AllPairs (λ a b. a ≢ b) names

-- no letter meets the guard
abbrev pub IsMetByNone : Store → List (List ℕ) → Guard → Type 0
IsMetByNone s names g = (letter : NameSet) → truth_in s g (holds_at names letter) ≡ false

-- each letter meets both guards or neither
abbrev pub IsMetByTheSame : Store → List (List ℕ) → Guard → Guard → Type 0
IsMetByTheSame s names g h = (letter : NameSet) → truth_in s g (holds_at names letter) ≡ truth_in s h (holds_at names letter)

-- the same propositions, but for one of them
abbrev pub with_prop : (ℕ → Bool) → ℕ → Bool → ℕ → Bool
with_prop on prop value i = if nat_eq i prop then value else on i

-- the guard has the same truth whether the proposition holds or not
abbrev pub IsFreeOf : Store → Guard → ℕ → Type 0
IsFreeOf s g prop = (on : ℕ → Bool) → truth_in s g (with_prop on prop true) ≡ truth_in s g (with_prop on prop false)

-- each proposition on which the guard depends is taken to a number below `count`
abbrev pub GoesBelow : ℕ → (ℕ → ℕ) → Store → Guard → Type 0
GoesBelow count to s g = (prop : ℕ) → prop < s.names → (to prop < count) ⊎ IsFreeOf s g prop
