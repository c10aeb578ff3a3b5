-- The states so far are written.
use Rattle.std.proofs.Common.{◌≡◌, ◌++◌}
use Rattle.std.specs.List.{flat_map, range_with_len}
use Rattle.aut_core.specs.SymbolicAutomata.{automaton_of}
use Rattle.hoa_writer.specs.CanonicalText.{state_lines}
use Rattle.hoa_writer.proofs.write.push_states.Given as goal

abbrev pub invariant-states : goal.invariant-states
invariant-states l = l.out ≡ l.initial.out ++ flat_map (state_lines (automaton_of l.a)) (range_with_len 0 l.state)
