use Rattle.aut_core.specs.SymbolicAutomata.{automaton_of}
use Rattle.plan_meaning.proofs.changes.Shapings.{complete_itself}
use Rattle.plan_meaning.proofs.changing.shaping.complete.Goals as goal

pub returns-then-is_complete-clause-steps : goal.returns-then-is_complete-clause-steps
returns-then-is_complete-clause-steps c = complete_itself (automaton_of c.args.a) c.well_formedness.ensures.well_formed (c.is_complete.ensures.0 c.if-is_complete.true)
