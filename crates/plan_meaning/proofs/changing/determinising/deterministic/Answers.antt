use Rattle.aut_core.specs.SymbolicAutomata.{automaton_of}
use Rattle.plan_meaning.proofs.changes.Determinised.{deterministic_itself}
use Rattle.plan_meaning.proofs.changing.determinising.deterministic.Goals as goal

pub returns-then-is_deterministic-clause-steps : goal.returns-then-is_deterministic-clause-steps
returns-then-is_deterministic-clause-steps c = deterministic_itself (automaton_of c.args.a) (c.is_deterministic.ensures.0 c.if-is_deterministic.true)
