-- Which answer each end of a run is.
use Rattle.autfilt_run.specs.declared.ended.End.{End}
use Rattle.autfilt_run.specs.declared.ended.End.TheVariants as end
use Rattle.autfilt_run.specs.declared.ended.Ended.{Ended}
use Rattle.autfilt_run.specs.declared.ended.Ended.TheVariants.{Output, NoneOutput, Aborts, Usage, CannotOpen, ReadFault, Syntax, Invalid, Limit, WriteFault, Memory}
use Rattle.autfilt_run.specs.declared.fault.RunFault.{RunFault}
use Rattle.autfilt_run.specs.declared.fault.RunFault.TheVariants as fault

-- the answer where a fault ended the session
abbrev pub answer_of_fault : RunFault → Ended
answer_of_fault fault.CannotOpen = CannotOpen
answer_of_fault fault.ReadFault = ReadFault
answer_of_fault (fault.SyntaxAt k) = Syntax
answer_of_fault fault.Truncated = Syntax
answer_of_fault (fault.Invalid rule) = Invalid
answer_of_fault (fault.Limit which) = Limit which
answer_of_fault fault.WriteFault = WriteFault
answer_of_fault fault.Memory = Memory

-- the answer
abbrev pub ended_of : End → Ended
ended_of end.Output = Output
ended_of end.NoneOutput = NoneOutput
ended_of end.Aborts = Aborts
ended_of end.Usage = Usage
ended_of (end.Fault f) = answer_of_fault f
