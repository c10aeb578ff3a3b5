-- What an exploration finds, the states that are reached with an edge for each step, and why it may meet a limit.
use Rattle.std.specs.Prelude.{◌≡◌, ◌≢◌, ◌⊎◌, ◌+◌, ◌<◌, ◌∷◌, ◌++◌, ℕ, zero, suc, Bool, List, [], Option, None, Some, fold, length, map, slice_get}
use Rattle.std.specs.List.{AllZip}
use Rattle.exploration.specs.TransitionFunctions.{StepFailed, Successor, NoSuccessor, StepOutcome, TransitionFunction}
use Rattle.exploration.specs.Turns.{Transition, Rules, with_new}
use Rattle.exploration.specs.declared.fault.Fault.{Fault}
use Rattle.exploration.specs.declared.fault.Fault.TheVariants as fault

-- a step: the index of the state that it leaves, the number of its class, and its successor
pub record Step (X : Type 0) : Type 0 where
  pub from : ℕ
  pub class : ℕ
  pub to : X

abbrev pub step_to : {X : Type 0} → ℕ → ℕ → StepOutcome X → List (Step X)
step_to p k (Successor y) = record { from = p; class = k; to = y } ∷ []
step_to p k NoSuccessor = []
step_to p k StepFailed = []

-- the steps for the first k classes of the state at this index
abbrev pub steps_below : {X : Type 0} → TransitionFunction X → ℕ → X → ℕ → List (Step X)
steps_below m p x zero = []
steps_below m p x (suc k) = steps_below m p x k ++ step_to p k (m.step x k)

abbrev pub steps_of : {X : Type 0} → TransitionFunction X → ℕ → Option X → List (Step X)
steps_of m p None = []
steps_of m p (Some x) = steps_below m p x (m.count x)

-- the steps for all classes of the first p states, in order
abbrev pub steps_before : {X : Type 0} → TransitionFunction X → List X → ℕ → List (Step X)
steps_before m states zero = []
steps_before m states (suc p) = steps_before m states p ++ steps_of m p (slice_get states p)

-- the edge is that of this step, and leads to the index of its successor
pub record IsTransition {X : Type 0} (states : List X) (a : Transition) (t : Step X) : Type 0 where
  pub from : a.from ≡ t.from
  pub class : a.class ≡ t.class
  pub to : slice_get states a.to ≡ Some t.to

-- steps for these classes lead from one state to the other
abbrev pub LeadsTo : {X : Type 0} → TransitionFunction X → X → List ℕ → X → Type 0
LeadsTo m x [] y = x ≡ y
LeadsTo {X} m x (k ∷ ks) y = (k < m.count x) × (z : X) × (m.step x k ≡ Successor z) × LeadsTo m z ks y

pub record IsReached {X : Type 0} (m : TransitionFunction X) (start y : X) : Type 0 where
  pub word : List ℕ
  pub leads : LeadsTo m start word y

-- The states that are reached, in breadth-first order, and the edges. The start comes first, and after it the successors of the steps,
-- each once, in the order in which they are first found. Each listed state is reached, and none of its steps fails. There is exactly
-- one edge for each step with a successor, in the order of states and classes.
pub record IsExplored {X : Type 0} (same : X → X → Bool) (m : TransitionFunction X) (start : X) (states : List X) (transitions : List Transition) : Type 0 where
  pub first : slice_get states 0 ≡ Some start
  pub in_turn : states ≡ fold (with_new same) (start ∷ []) (map (λ t. t.to) (steps_before m states (length states)))
  pub reached : (i : ℕ) (x : X) → slice_get states i ≡ Some x → IsReached m start x
  pub once : (i j : ℕ) (x : X) → slice_get states i ≡ Some x → slice_get states j ≡ Some x → i ≡ j
  pub sure : (i k : ℕ) (x : X) → slice_get states i ≡ Some x → k < m.count x → m.step x k ≢ StepFailed
  pub edges : AllZip (IsTransition states) transitions (steps_before m states (length states))

abbrev pub class_count : {X : Type 0} → TransitionFunction X → Option X → ℕ
class_count m None = 0
class_count m (Some x) = m.count x

-- the sum of the numbers of classes of the first p states
abbrev pub class_counts : {X : Type 0} → TransitionFunction X → List X → ℕ → ℕ
class_counts m states zero = 0
class_counts m states (suc p) = class_counts m states p + class_count m (slice_get states p)

-- different states, all of them reached
pub record AreReached {X : Type 0} (m : TransitionFunction X) (start : X) (states : List X) : Type 0 where
  pub reached : (i : ℕ) (x : X) → slice_get states i ≡ Some x → IsReached m start x
  pub once : (i j : ℕ) (x : X) → slice_get states i ≡ Some x → slice_get states j ≡ Some x → i ≡ j

-- more than `most` states are reached
pub record HasMoreThings {X : Type 0} (m : TransitionFunction X) (start : X) (most : ℕ) : Type 0 where
  pub states : List X
  pub are : AreReached m start states
  pub many : most < length states

-- states that are reached have more than `most` classes together
pub record HasMoreClasses {X : Type 0} (m : TransitionFunction X) (start : X) (most : ℕ) : Type 0 where
  pub states : List X
  pub are : AreReached m start states
  pub number : ℕ
  pub many : most < class_counts m states number

-- a step fails at a state that is reached
pub record HasFailure {X : Type 0} (m : TransitionFunction X) (start : X) : Type 0 where
  pub state : X
  pub class : ℕ
  pub reached : IsReached m start state
  pub less : class < m.count state
  pub fails : m.step state class ≡ StepFailed

-- why the exploration met a limit
abbrev pub Excess : {X : Type 0} → Rules X → X → Fault → Type 0
Excess r start fault.Classes = HasMoreClasses r.moves start r.max_classes
Excess r start fault.StepFailed = HasFailure r.moves start
Excess r start fault.States = HasMoreThings r.moves start r.max_states
Excess r start fault.Memory = ⊥

-- want of memory, or the fault has its cause
abbrev pub IsCaused : {X : Type 0} → Rules X → X → Fault → Type 0
IsCaused r start f = (f ≡ fault.Memory) ⊎ Excess r start f
