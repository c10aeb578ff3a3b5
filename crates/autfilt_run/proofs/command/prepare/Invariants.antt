use Rattle.std.proofs.Common.{◌-◌}
use Rattle.autfilt_run.specs.inner.Running.{IsPreparing}
use Rattle.autfilt_run.proofs.command.prepare.Given as goal

abbrev pub invariant-operands : goal.invariant-operands
invariant-operands g l =
    IsPreparing l.fn.session.plan l.session (g.I.Inputs.seen l.fn.inputs) (g.I.Inputs.seen l.inputs) (g.M.Sink.seen l.fn.notes) (g.M.Sink.seen l.notes) l.noting

-- Each abandoned automaton that is skipped takes bytes.
abbrev pub decreases-operands : goal.decreases-operands
decreases-operands g l = l.session.lexer.most - l.session.lexer.taken
