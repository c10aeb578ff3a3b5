-- The error of a product by that of joining names, and by that of exploring pairs.
use Rattle.aut_core.specs.declared.join.NameFault.{NameFault}
use Rattle.aut_core.specs.declared.join.NameFault.TheVariants as name_fault
use Rattle.aut_ops.specs.declared.fault.ExploreFault.{ExploreFault}
use Rattle.aut_ops.specs.declared.fault.ExploreFault.TheVariants as explored
use Rattle.aut_ops.specs.declared.fault.PairFault.{PairFault}
use Rattle.aut_ops.specs.declared.fault.PairFault.TheVariants as fault

abbrev pub pair_fault : NameFault → PairFault
pair_fault name_fault.Names = fault.Names
pair_fault name_fault.Memory = fault.Memory

abbrev pub explored_fault : ExploreFault → PairFault
explored_fault explored.Pairs = fault.Pairs
explored_fault explored.Memory = fault.Memory
