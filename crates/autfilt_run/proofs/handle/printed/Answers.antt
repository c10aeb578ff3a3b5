use Rattle.autfilt_run.proofs.handling.Handling.{wants_memory}
use Rattle.autfilt_run.proofs.handle.printed.Goals as goal

pub returns-in_err-write_text-in-Hoa-clause-prints : goal.returns-in_err-write_text-in-Hoa-clause-prints
returns-in_err-write_text-in-Hoa-clause-prints c = wants_memory c.from_residual-in_err-write_text-in-Hoa.result _ _ _ _ _ c.from_residual-in_err-write_text-in-Hoa.ensures.1

pub returns-in_err-line_of-in-Stats-clause-prints : goal.returns-in_err-line_of-in-Stats-clause-prints
returns-in_err-line_of-in-Stats-clause-prints c = wants_memory c.from_residual-in_err-line_of-in-Stats.result _ _ _ _ _ c.from_residual-in_err-line_of-in-Stats.ensures.1
