use Rattle.std.proofs.Common.{arith}
use Rattle.aut_ops.proofs.flagged.Ranks.{rank_within}
use Rattle.aut_ops.proofs.reached.flagged_count.Goals as goal

pub overflow_add-count : goal.overflow_add-count
overflow_add-count c = omega (arith, rank_within c.args.flags.now c.flags.flag-index)
