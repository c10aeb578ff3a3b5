use Rattle.std.proofs.Common.{true, false}
use Rattle.autfilt_run.proofs.notes.note.Goals as goal

pub returns-in-Ok : goal.returns-in-Ok
returns-in-Ok g c = (true, (c.in-Ok.ensures.ok, c.in-Ok.ensures.calm))

pub returns-in-Err : goal.returns-in-Err
returns-in-Err g c = (false, (c.in-Err.ensures.err, c.in-Err.ensures.failed))
