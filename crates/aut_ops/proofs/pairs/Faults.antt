-- The error of a product by that of its exploration.
use Rattle.std.proofs.Common.{◌≡◌, refl}
use Rattle.aut_ops.specs.declared.fault.ExploreFault.{ExploreFault}
use Rattle.aut_ops.specs.declared.fault.ExploreFault.TheVariants as explored
use Rattle.aut_ops.specs.declared.fault.PairFault.TheVariants as fault
use Rattle.aut_ops.specs.inner.Faults.{explored_fault}

pub pairs_fault : (f : ExploreFault) → explored_fault f ≡ fault.Pairs → f ≡ explored.Pairs
pairs_fault explored.Pairs is = refl
pairs_fault explored.Memory is = absurd cc

pub never_names : (f : ExploreFault) → explored_fault f ≡ fault.Names → ⊥
never_names explored.Pairs is = cc
never_names explored.Memory is = cc
