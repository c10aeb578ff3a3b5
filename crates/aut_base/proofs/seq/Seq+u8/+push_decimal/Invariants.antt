-- Each call has a smaller number to write.
use Rattle.aut_base.proofs.seq.Seq+u8.+push_decimal.Given as goal

abbrev pub decreases-push_decimal : goal.decreases-push_decimal
decreases-push_decimal l = l.number
