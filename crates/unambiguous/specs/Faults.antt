-- The faults of the square, as faults of the decision whether an automaton is unambiguous.
use Rattle.aut_ops.specs.declared.fault.PairFault.{PairFault}
use Rattle.aut_ops.specs.declared.fault.PairFault.TheVariants as pair
use Rattle.unambiguous.specs.declared.fault.SquareFault.{SquareFault}
use Rattle.unambiguous.specs.declared.fault.SquareFault.TheVariants as fault

abbrev pub square_fault : PairFault → SquareFault
square_fault pair.Names = fault.Memory
square_fault pair.Pairs = fault.Pairs
square_fault pair.Memory = fault.Memory
