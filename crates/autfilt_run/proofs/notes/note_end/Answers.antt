use Rattle.std.proofs.Common.{false}
use Rattle.autfilt_run.proofs.running.Noting.{notes_stop, notes_then}
use Rattle.autfilt_run.proofs.notes.note_end.Goals as goal

pub returns-then-noting-clause-noted : goal.returns-then-noting-clause-noted
returns-then-noting-clause-noted g c first text h = (c.note.ensures.0, notes_then _ _ _ _ _ _ _ c.if-noting.true h c.note.ensures.1)

pub returns-else-noting-clause-noted : goal.returns-else-noting-clause-noted
returns-else-noting-clause-noted g c first text h = (false, notes_stop _ _ _ _ _ c.if-noting.false h)
