-- The invariant of an automaton in memory: it is well formed, and its index of links and its two flags are right.
use Rattle.std.specs.Prelude.{◌↔◌, ℕ, Bool, IsTrue, List}
use Rattle.aut_core.specs.SymbolicAutomata.{SymbolicAutomaton, IsWellFormedSymbolic, automaton_of}
use Rattle.aut_core.specs.Deterministic.{IsComplete, IsDeterministic}
use Rattle.aut_core.specs.Index.{IsIndex}

pub record IsIndexed (c : SymbolicAutomaton) (rows : List ℕ) (is_deterministic is_complete : Bool) : Type 0 where
  pub core : IsWellFormedSymbolic c
  pub index : IsIndex c.links c.states rows
  pub deterministic : IsTrue is_deterministic ↔ IsDeterministic (automaton_of c)
  pub complete : IsTrue is_complete ↔ IsComplete (automaton_of c)
