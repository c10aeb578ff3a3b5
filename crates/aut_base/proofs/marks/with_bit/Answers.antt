use Rattle.std.proofs.Common.{rules}
use Rattle.aut_base.proofs.order.SetBits.{pushed_bit, small_word}
use Rattle.aut_base.proofs.marks.with_bit.Goals as goal

pub returns-then-item-lt64 : goal.returns-then-item-lt64
returns-then-item-lt64 c = pushed_bit c.args.word c.args.item (small_word c.args.word c.args.item (search rules) c.requires) c.if-item-lt64.true
