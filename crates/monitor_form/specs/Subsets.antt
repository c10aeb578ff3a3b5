-- The subset construction, as a transition system that is explored: its states are sets of states, as lists of numbers in
-- rising order, and its classes are those of the letters that the edges from a set don't tell apart.
use Rattle.std.specs.Prelude.{◌≡◌, ◌≤◌, ℕ, ◌<◌, ◌==◌, ◌&&◌, Bool, if◌then◌else◌, List, [], filter, length, map, nat_eq}
use Rattle.std.specs.Cmp.Lexicographic.{pointwise}
use Rattle.std.specs.List.{list_any, range_with_len, slice_index_or}
use Rattle.aut_base.specs.Automaton.{Automaton}
use Rattle.aut_base.specs.Formula.{FormulaTree}
use Rattle.aut_base.specs.Marks.{is_in}
use Rattle.aut_base.specs.Valuation.{truth_on}
use Rattle.aut_base.specs.declared.limit.TheConstants.{MOST_BUCHI_STATES, MOST_CLASSES, MOST_SUBSETS}
use Rattle.aut_ops.specs.Pruning.{IsPruned}
use Rattle.degeneralise.specs.Buchi.{buchi, buchi_states}
use Rattle.exploration.specs.TransitionFunctions.{Successor, NoSuccessor, TransitionFunction}
use Rattle.exploration.specs.Turns.{Transition, Comes, EndsWith, LimitMet, Rules, begin}
use Rattle.exploration.specs.declared.fault.Fault.{Fault}
use Rattle.exploration.specs.declared.fault.Fault.TheVariants as limit
use Rattle.letter_classes.specs.ClassForms.{class_edge, class_steps}
use Rattle.letter_classes.specs.SetClasses.{set_classes, set_edges}
use Rattle.monitor_form.specs.Monitors.{first_places}

-- the states to which edges lead from the set at the valuation, in rising order
abbrev pub successor_set : Automaton → List ℕ → List Bool → List ℕ
successor_set b set v = filter (λ q. list_any (λ e. (e.to == q) && truth_on e.label v) (set_edges b set)) (range_with_len 0 b.states)

-- the steps of the sets: that for a class leads to the successors, unless there are none
abbrev pub subset_moves : Automaton → TransitionFunction (List ℕ)
subset_moves b = class_steps (set_classes b) (λ set v. if length (successor_set b set v) == 0 then NoSuccessor else Successor (successor_set b set v))

-- the starts, in rising order
abbrev pub start_set : Automaton → List ℕ
start_set b = filter (λ q. is_in q b.starts) (range_with_len 0 b.states)

-- the exploration of the sets, with its limits
abbrev pub subset_rules : Automaton → Rules (List ℕ)
subset_rules b = record { same = pointwise nat_eq; moves = subset_moves b; max_states = MOST_SUBSETS; max_classes = MOST_CLASSES }

-- The automaton whose states are the indices of these sets, without acceptance sets. State 0 is the start, if b has any, and each edge
-- is labelled by its class.
abbrev pub monitor_on : List (List ℕ) → List Transition → Automaton → Automaton
monitor_on sets transitions b = record {
  names = b.names;
  starts = first_places b.starts;
  states = length sets;
  edges = map (class_edge b (λ place. slice_index_or sets place []) (λ place v. [])) transitions;
  sets = 0;
  formula = FormulaTree.True;
}

-- The automaton made is the subset construction of b. Where there are starts, the exploration ends with these sets and edges; else there
-- are none.
pub record IsSubsetForm (b made : Automaton) : Type 0 where
  pub sets : List (List ℕ)
  pub transitions : List Transition
  pub none : b.starts ≡ [] → (sets ≡ []) × (transitions ≡ [])
  pub explored : 0 < length b.starts → EndsWith (subset_rules b) (start_set b) sets transitions
  pub is : made ≡ monitor_on sets transitions b

-- The automaton made is the monitor of a: the subset construction of its Büchi form, pruned. Law: there is at most one.
pub record IsMonitorAutomaton (a made : Automaton) : Type 0 where
  pub pruned : Automaton
  pub is_pruned : IsPruned (buchi a) pruned
  pub is : IsSubsetForm pruned made

-- the construction of b meets this limit first
pub record MeetsSubsetLimit (b : Automaton) (f : Fault) : Type 0 where
  pub some : 0 < length b.starts
  pub meets : Comes (subset_rules b) (begin (start_set b)) (LimitMet f)

-- the Büchi form has no more states than it may, and the construction meets this limit first
pub record MeetsLimit (a : Automaton) (f : Fault) : Type 0 where
  pub few : buchi_states a ≤ MOST_BUCHI_STATES
  pub pruned : Automaton
  pub is_pruned : IsPruned (buchi a) pruned
  pub meets : MeetsSubsetLimit pruned f

-- The subset construction of an automaton makes at most one automaton, or meets at most one limit first, and never both.
pub record SubsetLaw (b : Automaton) : Type 0 where
  pub one : (made other : Automaton) → IsSubsetForm b made → IsSubsetForm b other → made ≡ other
  pub limit : (f g : Fault) → MeetsSubsetLimit b f → MeetsSubsetLimit b g → f ≡ g
  pub either : (made : Automaton) (f : Fault) → IsSubsetForm b made → MeetsSubsetLimit b f → ⊥

abbrev pub SubsetFormIsDetermined : Type 0
SubsetFormIsDetermined = (b : Automaton) → SubsetLaw b

-- An automaton has one monitor.
abbrev pub MonitorIsDetermined : Type 0
MonitorIsDetermined = (a made other : Automaton) → IsMonitorAutomaton a made → IsMonitorAutomaton a other → made ≡ other

-- Where there is a monitor no limit is met, and at most one limit is met.
pub record MonitorLimitsExclude (a : Automaton) : Type 0 where
  pub monitors : (made : Automaton) (f : Fault) → IsMonitorAutomaton a made → MeetsLimit a f → ⊥
  pub others : (f g : Fault) → MeetsLimit a f → MeetsLimit a g → f ≡ g

abbrev pub MonitorExcludesLimits : Type 0
MonitorExcludesLimits = (a : Automaton) → MonitorLimitsExclude a

-- An automaton whose Büchi form has no more states than it may, and whose subset construction meets neither limit, has a
-- monitor (said by double negation).
abbrev pub MonitorExists : Type 0
MonitorExists = (a : Automaton) → buchi_states a ≤ MOST_BUCHI_STATES → (MeetsLimit a limit.Classes → ⊥) → (MeetsLimit a limit.States → ⊥)
    → ((made : Automaton) → IsMonitorAutomaton a made → ⊥) → ⊥
