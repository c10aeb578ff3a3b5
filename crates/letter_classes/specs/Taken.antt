-- Parts of those edges whose labels are true at a valuation.
use Rattle.std.specs.Prelude.{ℕ, Bool, List, filter, map}
use Rattle.aut_base.specs.Automaton.{LabelledEdge}
use Rattle.aut_base.specs.Valuation.{truth_on}
use Rattle.aut_core.specs.SymbolicAutomata.{SymbolicAutomaton}
use Rattle.label_guards.specs.Leasts.{bits_of}

-- the edge's label is true at the valuation of this number
abbrev pub reads_at : SymbolicAutomaton → ℕ → LabelledEdge → Bool
reads_at c number e = truth_on e.label (bits_of c.store.names number)

-- the parts of those edges that pass the test, edge by edge
abbrev pub taken_of : {A : Type 0} → (LabelledEdge → A) → (LabelledEdge → Bool) → List LabelledEdge → List A
taken_of part reads es = map part (filter reads es)
