use Rattle.std.proofs.Common.{true, false}
use Rattle.autfilt_run.proofs.running.Noting.{notes_stop, notes_then}
use Rattle.autfilt_run.proofs.notes.note_skipped.Goals as goal

pub returns-then-not-noting : goal.returns-then-not-noting
returns-then-not-noting g c first text h = notes_stop _ _ _ _ _ c.if-not-noting.true h

pub returns-in-Ok : goal.returns-in-Ok
returns-in-Ok g c first text h = notes_then _ _ _ _ _ _ true c.if-not-noting.false h (c.in-Ok.ensures.ok, c.in-Ok.ensures.calm)

pub returns-in-Err : goal.returns-in-Err
returns-in-Err g c first text h = notes_then _ _ _ _ _ _ false c.if-not-noting.false h (c.in-Err.ensures.err, c.in-Err.ensures.failed)
