-- Büchi automata, and the moves that a letter allows of one.
use Rattle.std.specs.Prelude.{◌≡◌, ◌<◌, ℕ, false, List, Contains, filter, map}
use Rattle.aut_base.specs.Automaton.{Automaton, IsWellFormed, LabelledEdge}
use Rattle.aut_base.specs.Formula.{Inf}
use Rattle.aut_base.specs.Marks.{is_in}
use Rattle.aut_base.specs.Word.{NameSet}
use Rattle.aut_core.specs.Deterministic.{is_met}
use Rattle.safra_trees.specs.declared.moves.Move.{Move}

-- the condition is `Inf(0)`, and starts and targets of edges are states
pub record IsBuchiForm (b : Automaton) : Type 0 where
  pub formula : b.formula ≡ Inf 0 false
  pub starts : (s : ℕ) → Contains b.starts s → s < b.states
  pub ends : (e : LabelledEdge) → Contains b.edges e → e.to < b.states

abbrev pub WellFormedIsBuchi : Type 0
WellFormedIsBuchi = (b : Automaton) → IsWellFormed b → b.formula ≡ Inf 0 false → IsBuchiForm b

-- an edge without its label, accepting where it is in set 0
abbrev pub move_of : LabelledEdge → Move
move_of e = record { from = e.from; to = e.to; accepting = is_in 0 e.marks }

-- the moves that the letter allows, in the order of the edges
abbrev pub moves_at : Automaton → NameSet → List Move
moves_at b x = map move_of (filter (is_met b.names x) b.edges)
