use Rattle.autfilt_run.proofs.printing.Writing.{writes_first, writes_then}
use Rattle.autfilt_run.proofs.notes.write_pieces.Goals as goal

pub returns-in_err-write : goal.returns-in_err-write
returns-in_err-write g c = writes_first _ _ _ _ _ _ c.from_residual.ensures.1 c.in_err-write.ensures

pub returns-in_err-write-2 : goal.returns-in_err-write-2
returns-in_err-write-2 g c = writes_then _ _ _ _ _ _ _ c.in_ok-write.ensures (writes_first _ _ _ _ _ _ c.from_residual-in_err-write-2.ensures.1 c.in_err-write-2.ensures)

pub returns : goal.returns
returns g c = writes_then _ _ _ _ _ _ _ c.in_ok-write.ensures (writes_then _ _ _ _ _ _ _ c.in_ok-write-2.ensures c.write-3.ensures)
