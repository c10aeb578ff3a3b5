-- The faults of the calls that filters and changes make, as faults of a plan.
use Rattle.acc_forms.specs.declared.fault.FormFault.{FormFault}
use Rattle.acc_forms.specs.declared.fault.FormFault.TheVariants as form
use Rattle.aut_base.specs.declared.limit.Limit.TheVariants as limit
use Rattle.aut_core.specs.declared.join.NameFault.{NameFault}
use Rattle.aut_core.specs.declared.join.NameFault.TheVariants as name
use Rattle.aut_ops.specs.declared.fault.PairFault.{PairFault}
use Rattle.aut_ops.specs.declared.fault.PairFault.TheVariants as pair
use Rattle.degeneralise.specs.declared.fault.BuchiFault.{BuchiFault}
use Rattle.degeneralise.specs.declared.fault.BuchiFault.TheVariants as buchi
use Rattle.monitor_form.specs.declared.fault.MonFault.{MonFault}
use Rattle.monitor_form.specs.declared.fault.MonFault.TheVariants as monitor
use Rattle.parity_det.specs.declared.fault.CompFault.{CompFault}
use Rattle.parity_det.specs.declared.fault.CompFault.TheVariants as comp
use Rattle.plan_meaning.specs.declared.fault.PlanFault.{PlanFault}
use Rattle.plan_meaning.specs.declared.fault.PlanFault.TheVariants as fault
use Rattle.unambiguous.specs.declared.fault.SquareFault.{SquareFault}
use Rattle.unambiguous.specs.declared.fault.SquareFault.TheVariants as square

abbrev pub fault_of_names : NameFault → PlanFault
fault_of_names name.Names = fault.Limit limit.Names
fault_of_names name.Memory = fault.Memory

abbrev pub fault_of_pairs : PairFault → PlanFault
fault_of_pairs pair.Names = fault.Limit limit.Names
fault_of_pairs pair.Pairs = fault.Limit limit.Pairs
fault_of_pairs pair.Memory = fault.Memory

abbrev pub fault_of_square : SquareFault → PlanFault
fault_of_square square.Pairs = fault.Limit limit.Pairs
fault_of_square square.Memory = fault.Memory

abbrev pub fault_of_form : FormFault → PlanFault
fault_of_form form.Terms = fault.Limit limit.Terms
fault_of_form form.Memory = fault.Memory

abbrev pub plan_fault_of_buchi : BuchiFault → PlanFault
plan_fault_of_buchi buchi.Terms = fault.Limit limit.Terms
plan_fault_of_buchi buchi.BuchiStates = fault.Limit limit.BuchiStates
plan_fault_of_buchi buchi.Memory = fault.Memory

abbrev pub fault_of_parity : CompFault → PlanFault
fault_of_parity comp.Terms = fault.Limit limit.Terms
fault_of_parity comp.BuchiStates = fault.Limit limit.BuchiStates
fault_of_parity comp.Trees = fault.Limit limit.Trees
fault_of_parity comp.Nodes = fault.Limit limit.Nodes
fault_of_parity comp.Classes = fault.Limit limit.Classes
fault_of_parity comp.Memory = fault.Memory

abbrev pub fault_of_monitor : MonFault → PlanFault
fault_of_monitor monitor.Terms = fault.Limit limit.Terms
fault_of_monitor monitor.BuchiStates = fault.Limit limit.BuchiStates
fault_of_monitor monitor.Classes = fault.Limit limit.Classes
fault_of_monitor monitor.Subsets = fault.Limit limit.Subsets
fault_of_monitor monitor.Memory = fault.Memory
