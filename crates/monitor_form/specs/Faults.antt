-- Faults of the Büchi form and of the exploration, as faults of the monitor.
use Rattle.degeneralise.specs.declared.fault.BuchiFault.{BuchiFault}
use Rattle.degeneralise.specs.declared.fault.BuchiFault.TheVariants as form
use Rattle.exploration.specs.declared.fault.Fault.{Fault}
use Rattle.exploration.specs.declared.fault.Fault.TheVariants as limit
use Rattle.monitor_form.specs.declared.fault.MonFault.{MonFault}
use Rattle.monitor_form.specs.declared.fault.MonFault.TheVariants as fault

abbrev pub buchi_fault : BuchiFault → MonFault
buchi_fault form.Terms = fault.Terms
buchi_fault form.BuchiStates = fault.BuchiStates
buchi_fault form.Memory = fault.Memory

-- the fault of the exploration; since no step of it fails, the case of `StepFailed` never occurs
abbrev pub exploration_fault : Fault → MonFault
exploration_fault limit.Classes = fault.Classes
exploration_fault limit.States = fault.Subsets
exploration_fault limit.StepFailed = fault.Memory
exploration_fault limit.Memory = fault.Memory
