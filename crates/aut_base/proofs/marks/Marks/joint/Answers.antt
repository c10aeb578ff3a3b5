use Rattle.aut_base.proofs.order.SetBits.{bits_rise}
use Rattle.aut_base.proofs.marks.Marks.joint.Goals as goal

pub invariant_of-result : goal.invariant_of-result
invariant_of-result c = bits_rise c.in-Some.word 64
