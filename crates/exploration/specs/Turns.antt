-- Breadth-first exploration of a transition system with limits, turn by turn, and its laws.
use Rattle.std.specs.Prelude.{◌≡◌, ◌+◌, ◌-◌, ◌∷◌, ◌++◌, ◌||◌, ℕ, zero, suc, Bool, if◌then◌else◌, List, [], Option, None, Some, leb, length, ltb, slice_get}
use Rattle.std.specs.List.{list_any, position_or_len}
use Rattle.exploration.specs.TransitionFunctions.{StepOutcome, Successor, NoSuccessor, StepFailed, TransitionFunction}
use Rattle.exploration.specs.declared.fault.Fault.{Fault}
use Rattle.exploration.specs.declared.fault.Fault.TheVariants as fault

-- the transition function that is explored, equality of its states, and the limits
pub record Rules (X : Type 0) : Type 0 where
  pub same : X → X → Bool
  pub moves : TransitionFunction X
  pub max_states : ℕ
  pub max_classes : ℕ

-- an edge: the indices of its two states, and the number of its class
pub record Transition : Type 0 where
  pub from : ℕ
  pub class : ℕ
  pub to : ℕ

-- the state of an exploration
pub record ExplorationState (X : Type 0) : Type 0 where
  pub states : List X  -- those listed
  pub sum : ℕ  -- of the numbers of classes of those that were expanded
  pub next : ℕ  -- the place of the one that is expanded next; the current one stands before it
  pub current : Option (X × ℕ)  -- the current state, and the number of the first of its classes still to come
  pub transitions : List Transition  -- the edges made

-- the outcome of a turn: the exploration goes on, or ends, or meets a limit
pub data Turn (X : Type 0) : Type 0 where
  Running : ExplorationState X → Turn X
  Finished : ExplorationState X → Turn X
  LimitMet : Fault → Turn X

-- the list, with the state added at its end unless it is there
abbrev pub with_new : {X : Type 0} → (X → X → Bool) → List X → X → List X
with_new same states y = if list_any (same y) states then states else states ++ y ∷ []

-- the state is listed, or fewer than `most` are
abbrev pub has_room : {X : Type 0} → (X → X → Bool) → ℕ → List X → X → Bool
has_room same most states y = list_any (same y) states || ltb (length states) most

-- the turn that takes the step for a class of the current state, by the step's outcome
abbrev pub stepped : {X : Type 0} → Rules X → ExplorationState X → X → ℕ → StepOutcome X → Turn X
stepped r s x k (Successor y) = if has_room r.same r.max_states s.states y
    then Running (record s {
      states = with_new r.same s.states y;
      current = Some (x, k + 1);
      transitions = s.transitions ++ record { from = s.next - 1; class = k; to = position_or_len (r.same y) s.states } ∷ [];
    })
    else LimitMet fault.States
stepped r s x k NoSuccessor = Running (record s { current = Some (x, k + 1) })
stepped r s x k StepFailed = LimitMet fault.StepFailed

-- the turn that expands the next state, or ends the exploration where there is none
abbrev pub turn_taken : {X : Type 0} → Rules X → ExplorationState X → Option X → Turn X
turn_taken r s None = Finished s
turn_taken r s (Some x) = if leb (s.sum + r.moves.count x) r.max_classes
    then Running (record s { sum = s.sum + r.moves.count x; next = s.next + 1; current = Some (x, 0) })
    else LimitMet fault.Classes

-- the turn, by the current state
abbrev pub turned : {X : Type 0} → Rules X → ExplorationState X → Option (X × ℕ) → Turn X
turned r s None = turn_taken r s (slice_get s.states s.next)
turned r s (Some current) = if ltb current.1 (r.moves.count current.0)
    then stepped r s current.0 current.1 (r.moves.step current.0 current.1)
    else turn_taken r s (slice_get s.states s.next)

-- the state at the beginning: the start is listed, and none is current
abbrev pub begin : {X : Type 0} → X → ExplorationState X
begin start = record { states = start ∷ []; sum = 0; next = 0; current = None; transitions = [] }

-- another turn, unless the exploration has ended
abbrev pub go_on : {X : Type 0} → Rules X → Turn X → Turn X
go_on r (Running s) = turned r s s.current
go_on r (Finished s) = Finished s
go_on r (LimitMet f) = LimitMet f

-- the outcome after this many turns
abbrev pub after_turns : {X : Type 0} → Rules X → ExplorationState X → ℕ → Turn X
after_turns r s zero = Running s
after_turns r s (suc n) = go_on r (after_turns r s n)

-- some number of turns leads there
pub record Comes {X : Type 0} (r : Rules X) (s : ExplorationState X) (t : Turn X) : Type 0 where
  pub turns : ℕ
  pub comes : after_turns r s turns ≡ t

-- the exploration has ended, or met a limit
abbrev pub HasStopped : {X : Type 0} → Turn X → Type 0
HasStopped (Running s) = ⊥
HasStopped (Finished s) = Unit {0}
HasStopped (LimitMet f) = Unit {0}

-- the exploration from the start ends with these states and edges
pub record EndsWith {X : Type 0} (r : Rules X) (start : X) (states : List X) (transitions : List Transition) : Type 0 where
  pub reached : ExplorationState X
  pub ends : Comes r (begin start) (Finished reached)
  pub listed : reached.states ≡ states
  pub made : reached.transitions ≡ transitions

-- The outcome of an exploration is determined: it ends, in one state, or meets a limit, one, and not both.
abbrev pub HasOneOutcome : (X : Type 0) → Type 0
HasOneOutcome X = (r : Rules X) (s : ExplorationState X) (t u : Turn X) → HasStopped t → HasStopped u → Comes r s t → Comes r s u → t ≡ u

-- So the lists of states and edges with which it ends are determined.
abbrev pub HasOneEnding : (X : Type 0) → Type 0
HasOneEnding X = (r : Rules X) (start : X) (states others : List X) (transitions more : List Transition) →
    EndsWith r start states transitions → EndsWith r start others more → (states ≡ others) × (transitions ≡ more)

-- an exploration that ends meets no limit
abbrev pub EndsOrMeets : (X : Type 0) → Type 0
EndsOrMeets X = (r : Rules X) (start : X) (states : List X) (transitions : List Transition) (f : Fault) →
    EndsWith r start states transitions → Comes r (begin start) (LimitMet f) → ⊥

-- the exploration ends, or it meets a limit
pub data HasOutcome {X : Type 0} (r : Rules X) (start : X) : Type 0 where
  has_end : (states : List X) (transitions : List Transition) → EndsWith r start states transitions → HasOutcome r start
  has_limit : (f : Fault) → (f ≡ fault.Memory → ⊥) → Comes r (begin start) (LimitMet f) → HasOutcome r start

-- Each exploration ends or meets a limit.
abbrev pub HasSomeOutcome : (X : Type 0) → Type 0
HasSomeOutcome X = (r : Rules X) (start : X) → HasOutcome r start
