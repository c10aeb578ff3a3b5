use Rattle.autfilt_run.proofs.printing.Writing.{writes_first, writes_then}
use Rattle.autfilt_run.proofs.number.write_line.Goals as goal

pub returns-in_err-write_number : goal.returns-in_err-write_number
returns-in_err-write_number g c = writes_first _ _ _ _ _ _ c.from_residual.ensures.1 c.in_err-write_number.ensures

pub returns : goal.returns
returns g c = writes_then _ _ _ _ _ _ _ c.in_ok-write_number.ensures c.write.ensures
