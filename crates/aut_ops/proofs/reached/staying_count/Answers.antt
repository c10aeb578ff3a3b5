use Rattle.std.proofs.Common.{arith}
use Rattle.aut_ops.proofs.links.ListSteps.{kept_within}
use Rattle.aut_ops.specs.inner.Renumbering.{link_stays}
use Rattle.aut_ops.proofs.reached.staying_count.Goals as goal

pub overflow_add-count : goal.overflow_add-count
overflow_add-count c = omega (arith, kept_within (link_stays c.args.a.now c.args.flags.now) c.args.a.now.links c.links.link-index)
