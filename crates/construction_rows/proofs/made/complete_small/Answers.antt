use Rattle.std.proofs.Common.{arith}
use Rattle.aut_core.specs.SymbolicAutomata.{automaton_of}
use Rattle.aut_ops.proofs.sinks.CompletedSizes.{completed_sets, completed_states}
use Rattle.construction_rows.proofs.made.complete_small.Goals as goal

pub complete-requires-clause-states : goal.complete-requires-clause-states
complete-requires-clause-states c = omega (arith, completed_states (automaton_of c.args.a.now), c.requires.first_states)

pub complete-requires-clause-sets : goal.complete-requires-clause-sets
complete-requires-clause-sets c = omega (arith, completed_sets (automaton_of c.args.a.now), c.requires.first_sets)
