-- Laws of unambiguous automata.
use Rattle.std.specs.Prelude.{◌≡◌, ◌↔◌, ℕ, List, [], ◌∷◌}
use Rattle.aut_base.specs.Acceptance.{Accepts}
use Rattle.aut_base.specs.Automaton.{Automaton, LabelledEdge}
use Rattle.aut_core.specs.SymbolicAutomata.{SymbolicAutomaton, IsWellFormedSymbolic, automaton_of}
use Rattle.aut_base.specs.Formula.{FormulaTree}
use Rattle.aut_base.specs.Label.{LabelTree}
use Rattle.aut_base.specs.Word.{NameSet, nth}
use Rattle.aut_core.specs.Deterministic.{IsDeterministic}
use Rattle.lasso_emptiness.specs.Emptiness.{AcceptsNothing}
use Rattle.unambiguous.specs.Runs.{AcceptingRun, IsUnambiguous}
use Rattle.unambiguous.specs.Parted.{IsParted}

-- An automaton is unambiguous exactly where its square, started in the pairs in which two runs may have diverged, accepts
-- no lasso word.
abbrev pub PartedDecides : Type 0
PartedDecides = (a : SymbolicAutomaton) (s : Automaton) → IsWellFormedSymbolic a → IsParted a s → AcceptsNothing s ↔ IsUnambiguous (automaton_of a)

-- Deterministic automata are unambiguous.
abbrev pub DeterministicIsUnambiguous : Type 0
DeterministicIsUnambiguous = (a : Automaton) → IsDeterministic a → IsUnambiguous a

-- a self-loop, and the automaton of one state that has it twice
abbrev pub self_loop : LabelledEdge
self_loop = record { from = 0; label = LabelTree.True; to = 0; marks = [] }

abbrev pub twice : Automaton
twice = record { names = []; starts = 0 ∷ []; states = 1; edges = self_loop ∷ self_loop ∷ []; sets = 0; formula = FormulaTree.True }

-- An automaton that lists one edge twice isn't unambiguous.
abbrev pub TwiceIsAmbiguous : Type 0
TwiceIsAmbiguous = IsUnambiguous twice → ⊥

-- An automaton accepts the words that have an accepting run.
abbrev pub RunsAreAcceptance : Type 0
RunsAreAcceptance = (a : Automaton) (u v : List NameSet) → Accepts a u v ↔ AcceptingRun a u v

-- The indices of the edges determine the start, and so all states: two different runs differ in the index of some edge.
abbrev pub PlacesFixStart : Type 0
PlacesFixStart = (a : Automaton) (u v : List NameSet) → (r t : AcceptingRun a u v) → ((n : ℕ) → nth r.path_edges r.cycle n ≡ nth t.path_edges t.cycle n) → r.accepted.start ≡ t.accepted.start
