-- Transition functions of deterministic systems, and how calls answer by them.
use Rattle.std.specs.Prelude.{◌≡◌, ℕ, List, Option, None, Some, Result, Ok, Err, length, slice_get}
use Rattle.exploration.specs.declared.fault.StepFault.{StepFault}
use Rattle.exploration.specs.declared.fault.StepFault.TheVariants as step

-- the outcome of a step: a successor, or none, or a failure
pub data StepOutcome (X : Type 0) : Type 0 where
  Successor : X → StepOutcome X
  NoSuccessor : StepOutcome X
  StepFailed : StepOutcome X

-- how many classes a state has, and the outcome of the step for each of them, by its number
pub record TransitionFunction (X : Type 0) : Type 0 where
  pub count : X → ℕ
  pub step : X → ℕ → StepOutcome X

-- the outcome that is answered as an optional successor with an output
abbrev pub outcome_of : {T N X : Type 0} → (T → X) → Option (T × N) → StepOutcome X
outcome_of seen (Some gift) = Successor (seen gift.0)
outcome_of seen None = NoSuccessor

-- what a call answers of a step is its outcome, except for want of memory
abbrev pub IsStepAnswer : {T N X : Type 0} → (T → X) → StepOutcome X → Result (Option (T × N)) StepFault → Type 0
IsStepAnswer seen move (Ok found) = move ≡ outcome_of seen found
IsStepAnswer seen move (Err step.Failed) = move ≡ StepFailed
IsStepAnswer seen move (Err step.Memory) = Unit {0}

-- the list has the handles of all classes of a state, in order
pub record AreClassHandles {C : Type 0} (is : ℕ → C → Type 0) (count : ℕ) (classes : List C) : Type 0 where
  pub all : length classes ≡ count
  pub each : (k : ℕ) (c : C) → slice_get classes k ≡ Some c → is k c

-- a call keeps the transition function, the states for which the system may be asked, and the classes of handles
pub record KeepsSystem {X C : Type 0} (m m' : TransitionFunction X) (f f' : X → Type 0) (is is' : X → ℕ → C → Type 0) : Type 0 where
  pub moves : m' ≡ m
  pub fits : (x : X) → f x → f' x
  pub is_class : (x : X) (k : ℕ) (c : C) → is x k c → is' x k c
