-- The variables of the loops as a state of the exploration (`ExplorationState`), and what holds of them.
use Rattle.std.specs.Prelude.{◌≡◌, ◌⊎◌, ◌+◌, ◌≤◌, ℕ, Bool, List, Option, Some, All, length, map, slice_get}
use Rattle.exploration.specs.declared.exploration.Edge.{Edge}
use Rattle.exploration.specs.declared.fault.Fault.{Fault}
use Rattle.exploration.specs.declared.fault.Fault.TheVariants as fault
use Rattle.exploration.specs.declared.limits.Limits.{Limits}
use Rattle.exploration.specs.TransitionFunctions.{TransitionFunction}
use Rattle.exploration.specs.Turns.{Transition, Comes, Running, LimitMet, Rules, ExplorationState}

abbrev pub rules_of : {X : Type 0} → (X → X → Bool) → TransitionFunction X → Limits → Rules X
rules_of same moves limits = record { same = same; moves = moves; max_states = limits.states; max_classes = limits.classes }

abbrev pub transition_of : {C N : Type 0} → Edge C N → Transition
transition_of e = record { from = e.from; class = e.number; to = e.to }

abbrev pub stage_of : {X C N : Type 0} → List X → List (Edge C N) → ℕ → ℕ → Option (X × ℕ) → ExplorationState X
stage_of states edges sum next current = record { states = states; sum = sum; next = next; current = current; transitions = map transition_of edges }

-- the edge's handle is that of the class of its number, for the state that it leaves, and its output is one of that step
pub record IsClassed {X C N : Type 0} (is : X → ℕ → C → Type 0) (told : X → ℕ → N → Type 0) (states : List X) (e : Edge C N) : Type 0 where
  pub state : X
  pub at : slice_get states e.from ≡ Some state
  pub class : is state e.number e.class
  pub output : told state e.number e.output

-- all listed states fit, there are no more than `most`, and each edge has its class's handle and an output of its step
pub record IsSound {X C N : Type 0} (fits : X → Type 0) (is : X → ℕ → C → Type 0) (told : X → ℕ → N → Type 0) (most : ℕ) (states : List X) (edges : List (Edge C N)) : Type 0 where
  pub each : All fits states
  pub few : length states ≤ most
  pub classed : All (IsClassed is told states) edges

-- the turns for the classes `a` to `b` - 1 of the state at this index lead from the one stage to the other
abbrev pub Spreads : {X C N : Type 0} → Rules X → ℕ → ℕ → ℕ → List X → List (Edge C N) → List X → List (Edge C N) → Type 0
Spreads {X} r at a b states edges states' edges' = (x : X) (sum : ℕ) → slice_get states at ≡ Some x →
    Comes r (stage_of states edges sum (at + 1) (Some (x, a))) (Running (stage_of states' edges' sum (at + 1) (Some (x, b))))

-- want of memory, or the limit that the turns meet
abbrev pub IsFaultMet : {X : Type 0} → Rules X → ExplorationState X → Fault → Type 0
IsFaultMet r s f = (f ≡ fault.Memory) ⊎ Comes r s (LimitMet f)
