use Rattle.std.proofs.Common.{sym}
use Rattle.aut_core.specs.SymbolicAutomata.{automaton_of}
use Rattle.aut_ops.proofs.sinks.SinkStates.{completed_same}
use Rattle.aut_ops.proofs.completion.made_complete.Goals as goal

pub returns-then-is_complete-clause-shape : goal.returns-then-is_complete-clause-shape
returns-then-is_complete-clause-shape c =
    sym (completed_same (automaton_of c.args.a.now) c.well_formedness.ensures.well_formed (c.is_complete.ensures.0 c.if-is_complete.true))
