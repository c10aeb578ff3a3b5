use Rattle.std.proofs.Common.{◌+◌, ◌-◌, length}
use Rattle.autfilt_run.specs.inner.Running.{IsRunning}
use Rattle.autfilt_run.specs.Plans.{plan_streams}
use Rattle.autfilt_run.specs.Points.{open_count, operands_in}
use Rattle.plan_meaning.specs.Complements.{AreComplementsKept}
use Rattle.autfilt_run.proofs.command.take_steps.Given as goal

-- The events happened so far, and the stored complements are those of the operands.
abbrev pub invariant-steps : goal.invariant-steps
invariant-steps g l =
    IsRunning l.fn.session l.session (g.I.Inputs.seen l.fn.inputs) (g.I.Inputs.seen l.inputs) (g.W.Sink.seen l.fn.out) (g.W.Sink.seen l.out) (g.M.Sink.seen l.fn.notes)
    (g.M.Sink.seen l.notes) l.fn.noting l.noting
    × AreComplementsKept l.session.plan (operands_in l.session) l.complements

-- A step opens a stream, closes one, or takes bytes of one.
abbrev pub decreases-steps : goal.decreases-steps
decreases-steps g l =
    let left = length (plan_streams l.session.plan) - l.session.opened in
    left + left + open_count l.session.is_open + (l.session.lexer.most - l.session.lexer.taken)
