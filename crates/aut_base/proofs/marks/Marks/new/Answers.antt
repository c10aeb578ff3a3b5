use Rattle.aut_base.proofs.order.SetBits.{bits_rise, no_bits}
use Rattle.aut_base.proofs.marks.Marks.new.Goals as goal

pub invariant_of-result : goal.invariant_of-result
invariant_of-result c = bits_rise 0 64

pub returns : goal.returns
returns c = no_bits
