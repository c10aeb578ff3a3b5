-- Faults of tree steps, the exploration, the Büchi form and determinisation, as faults of the call above each.
use Rattle.degeneralise.specs.declared.fault.BuchiFault.{BuchiFault}
use Rattle.degeneralise.specs.declared.fault.BuchiFault.TheVariants as form
use Rattle.exploration.specs.declared.fault.Fault.{Fault}
use Rattle.exploration.specs.declared.fault.Fault.TheVariants as limit
use Rattle.exploration.specs.declared.fault.StepFault.{StepFault}
use Rattle.exploration.specs.declared.fault.StepFault.TheVariants as step
use Rattle.parity_det.specs.declared.fault.CompFault.{CompFault}
use Rattle.parity_det.specs.declared.fault.CompFault.TheVariants as fault
use Rattle.parity_det.specs.declared.fault.DetFault.{DetFault}
use Rattle.parity_det.specs.declared.fault.DetFault.TheVariants as det
use Rattle.safra_trees.specs.declared.fault.TreeFault.{TreeFault}
use Rattle.safra_trees.specs.declared.fault.TreeFault.TheVariants as tree

abbrev pub step_fault : TreeFault → StepFault
step_fault tree.Nodes = step.Failed
step_fault tree.Memory = step.Memory

abbrev pub fault_of_exploration : Fault → DetFault
fault_of_exploration limit.Classes = det.Classes
fault_of_exploration limit.StepFailed = det.Nodes
fault_of_exploration limit.States = det.Trees
fault_of_exploration limit.Memory = det.Memory

abbrev pub fault_of_buchi : BuchiFault → CompFault
fault_of_buchi form.Terms = fault.Terms
fault_of_buchi form.BuchiStates = fault.BuchiStates
fault_of_buchi form.Memory = fault.Memory

abbrev pub fault_of_det : DetFault → CompFault
fault_of_det det.Trees = fault.Trees
fault_of_det det.Nodes = fault.Nodes
fault_of_det det.Classes = fault.Classes
fault_of_det det.Memory = fault.Memory
