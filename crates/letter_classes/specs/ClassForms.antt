-- Automata made of explored states and edges: each explored state has a set of states of an automaton b, and its edges have the
-- classes of letters of that set as labels.
use Rattle.std.specs.Prelude.{ℕ, Bool, List, [], ◌∷◌, length, slice_get}
use Rattle.std.specs.List.{slice_index_or}
use Rattle.std.specs.Option.{option_map_or}
use Rattle.aut_base.specs.Automaton.{Automaton, LabelledEdge}
use Rattle.aut_base.specs.Formula.{FormulaTree}
use Rattle.aut_core.specs.SymbolicAutomata.{SymbolicAutomaton}
use Rattle.aut_core.specs.declared.link.Link.{Link}
use Rattle.exploration.specs.TransitionFunctions.{NoSuccessor, StepOutcome, TransitionFunction}
use Rattle.exploration.specs.Turns.{Transition}
use Rattle.exploration.specs.declared.exploration.Edge.{Edge}
use Rattle.label_guards.specs.Store.{Store}
use Rattle.label_guards.specs.declared.guard.Guard.{Guard}
use Rattle.letter_classes.specs.SetClasses.{class_label, set_classes, set_labels}

-- the steps for classes that are given by their least valuations; `after` has the outcome of a state's step at such a valuation
abbrev pub class_steps : {X : Type 0} → (X → List (List Bool)) → (X → List Bool → StepOutcome X) → TransitionFunction X
class_steps classes after = record { count = λ x. length (classes x); step = λ x k. option_map_or (after x) (slice_get (classes x) k) NoSuccessor }

-- The edge labelled by its class, whose least valuation is that of the transition's number. `set_of` has the set of each explored state,
-- and `marks_of` the marks of its step at a valuation.
abbrev pub class_edge : Automaton → (ℕ → List ℕ) → (ℕ → List Bool → List ℕ) → Transition → LabelledEdge
class_edge b set_of marks_of transition = record {
  from = transition.from;
  label = class_label (length b.names) (set_labels b (set_of transition.from)) (slice_index_or (set_classes b (set_of transition.from)) transition.class []);
  to = transition.to;
  marks = marks_of transition.from (slice_index_or (set_classes b (set_of transition.from)) transition.class []);
}

-- the link of an explored edge, with the marks that come from its output
abbrev pub link_of : {N : Type 0} → (N → List ℕ) → Edge Guard N → Link
link_of marks e = record { from = e.from; guard = e.class; to = e.to; marks = marks e.output }

-- an automaton over the names of b with start 0
abbrev pub form_of : SymbolicAutomaton → Store → ℕ → List Link → ℕ → FormulaTree → SymbolicAutomaton
form_of b s states links sets formula = record { names = b.names; starts = 0 ∷ []; states = states; links = links; sets = sets; formula = formula; store = s }
