-- Automata with numbers far below 2^32, and those of one set that is to be met again and again.
use Rattle.std.specs.Prelude.{◌≡◌, ◌<◌, false}
use Rattle.aut_base.specs.Formula.{Inf}
use Rattle.aut_core.specs.SymbolicAutomata.{SymbolicAutomaton}

pub record AreSmall (a b : SymbolicAutomaton) : Type 0 where
  pub first_states : a.states < 1000
  pub first_sets : a.sets < 1000
  pub second_states : b.states < 1000
  pub second_sets : b.sets < 1000

-- one acceptance set, which has to come again and again
pub record HasOneSet (a : SymbolicAutomaton) : Type 0 where
  pub sets : a.sets ≡ 1
  pub formula : a.formula ≡ Inf 0 false
