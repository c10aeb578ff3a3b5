-- The fault of an exploration by that of a step.
use Rattle.exploration.specs.declared.fault.Fault.{Fault}
use Rattle.exploration.specs.declared.fault.StepFault.{StepFault}
use Rattle.exploration.specs.declared.fault.Fault.TheVariants as fault
use Rattle.exploration.specs.declared.fault.StepFault.TheVariants as step

abbrev pub fault_of_step : StepFault → Fault
fault_of_step step.Failed = fault.StepFailed
fault_of_step step.Memory = fault.Memory
