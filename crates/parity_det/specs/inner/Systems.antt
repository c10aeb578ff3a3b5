-- Definitions for the contracts of private functions: moves of a class, the event and mark of its step, and the limit that
-- is met first.
use Rattle.std.specs.Prelude.{◌≡◌, ℕ, Bool, List, Some, slice_get}
use Rattle.aut_base.specs.Automaton.{Automaton, LabelledEdge}
use Rattle.aut_core.specs.SymbolicAutomata.{SymbolicAutomaton, automaton_of}
use Rattle.exploration.specs.Turns.{Comes, LimitMet, begin}
use Rattle.exploration.specs.declared.fault.Fault.{Fault}
use Rattle.letter_classes.specs.SetClasses.{set_classes}
use Rattle.letter_classes.specs.Taken.{taken_of}
use Rattle.parity_det.specs.Determinisation.{class_moves, tree_rules}
use Rattle.parity_laws.specs.Buchi.{move_of}
use Rattle.safra_laws.specs.Priorities.{priority_by}
use Rattle.safra_trees.specs.Events.{event_of}
use Rattle.safra_trees.specs.Trees.{Node, first_tree, root_states}
use Rattle.safra_trees.specs.declared.event.Event.{Event}
use Rattle.safra_trees.specs.declared.moves.Move.{Move}

-- the moves of the edges of the list that pass the test
abbrev pub moves_of : (LabelledEdge → Bool) → List LabelledEdge → List Move
moves_of = taken_of move_of

-- the event is that of the step for the class of this number
abbrev pub IsClassEvent : SymbolicAutomaton → List Node → ℕ → Event → Type 0
IsClassEvent c t k event = (v : List Bool) → slice_get (set_classes (automaton_of c) (root_states t)) k ≡ Some v
    → event ≡ event_of c.states (class_moves (automaton_of c) t v) t

-- the mark of a step with this event, where trees have at most `most` nodes
abbrev pub mark_of : ℕ → Event → ℕ
mark_of most event = priority_by most event.red event.green

-- the exploration of the trees of b meets this limit first
abbrev pub MeetsFirst : Automaton → Fault → Type 0
MeetsFirst b f = Comes (tree_rules b) (begin (first_tree b.states b.starts)) (LimitMet f)
