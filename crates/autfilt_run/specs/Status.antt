-- The exit status of a run.
use Rattle.std.specs.Prelude.{ℕ}
use Rattle.autfilt_run.specs.declared.ended.Ended.{Ended}
use Rattle.autfilt_run.specs.declared.ended.Ended.TheVariants.{Output, NoneOutput, Memory}

abbrev pub status_of : Ended → ℕ
status_of Output = 0
status_of NoneOutput = 1
status_of Memory = 3
status_of _ = 2
