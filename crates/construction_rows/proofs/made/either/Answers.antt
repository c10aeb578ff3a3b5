use Rattle.std.proofs.Common.{arith}
use Rattle.aut_core.specs.SymbolicAutomata.{automaton_of}
use Rattle.aut_ops.proofs.sinks.CompletedSizes.{completed_sets, completed_states}
use Rattle.construction_rows.proofs.made.either.Goals as goal

pub product_or-requires-clause-states : goal.product_or-requires-clause-states
product_or-requires-clause-states c = omega (arith, completed_states (automaton_of c.args.a.now), c.requires.first_states)

pub product_or-requires-clause-other_states : goal.product_or-requires-clause-other_states
product_or-requires-clause-other_states c = omega (arith, completed_states (automaton_of c.args.b.now), c.requires.second_states)

pub product_or-requires-clause-sets : goal.product_or-requires-clause-sets
product_or-requires-clause-sets c = omega (arith, completed_sets (automaton_of c.args.a.now), completed_sets (automaton_of c.args.b.now), c.requires.first_sets, c.requires.second_sets)
