-- Which fault of a session each fault of the crates below becomes.
use Rattle.aut_base.specs.declared.fault.OpenFail.{OpenFail}
use Rattle.aut_base.specs.declared.fault.OpenFail.TheVariants as opening
use Rattle.aut_base.specs.declared.limit.Limit.TheVariants as limit
use Rattle.autfilt_run.specs.declared.fault.RunFault.{RunFault}
use Rattle.autfilt_run.specs.declared.fault.RunFault.TheVariants as fault
use Rattle.hoa_parser.specs.declared.fault.ReadFault as reading
use Rattle.hoa_reader.specs.declared.elaborate.ElabFault as describing
use Rattle.plan_meaning.specs.declared.fault.PlanFault.{PlanFault}
use Rattle.plan_meaning.specs.declared.fault.PlanFault.TheVariants as asked

-- the fault where a file can't be opened
abbrev pub fault_of_opening : OpenFail → RunFault
fault_of_opening opening.Failed = fault.CannotOpen
fault_of_opening opening.Memory = fault.Memory

-- the fault where the reader has one
abbrev pub fault_of_reading : reading.ReadFault → RunFault
fault_of_reading (reading.ReadFault.Syntax k) = fault.SyntaxAt k
fault_of_reading reading.ReadFault.Truncated = fault.Truncated
fault_of_reading reading.ReadFault.Depth = fault.Limit limit.Depth
fault_of_reading reading.ReadFault.Bytes = fault.Limit limit.Bytes
fault_of_reading reading.ReadFault.Read = fault.ReadFault
fault_of_reading reading.ReadFault.Memory = fault.Memory

-- the fault where what was read is no valid automaton, or passes a limit
abbrev pub fault_of_describing : describing.ElabFault → RunFault
fault_of_describing (describing.ElabFault.Invalid rule) = fault.Invalid rule
fault_of_describing (describing.ElabFault.Limit which) = fault.Limit which
fault_of_describing describing.ElabFault.Memory = fault.Memory

-- the fault where a filter can't be decided, or nothing can be made of an automaton
abbrev pub fault_of_plan : PlanFault → RunFault
fault_of_plan (asked.Limit which) = fault.Limit which
fault_of_plan asked.Memory = fault.Memory
