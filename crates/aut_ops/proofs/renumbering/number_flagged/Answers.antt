use Rattle.std.proofs.Common.{arith}
use Rattle.aut_ops.proofs.links.RangeSteps.{mapped_more}
use Rattle.aut_ops.proofs.flagged.Ranks.{rank_set, rank_unset, rank_within}
use Rattle.aut_ops.specs.Trimming.{flagged_before}
use Rattle.aut_ops.proofs.renumbering.number_flagged.Goals as goal

pub states-preserved-then-not-flag : goal.states-preserved-then-not-flag
states-preserved-then-not-flag c = record {
  ranks = mapped_more (flagged_before c.args.flags.now) c.states.ranks c.push.new.self c.states.flag-index c.states.count c.states.invariant.ranks c.states.invariant.count c.in_ok-push.ensures.ok;
  count = rank_unset c.args.flags.now c.states.flag-index c.states.count c.states-test.true c.states.invariant.count c.if-not-flag.true;
}

pub overflow_add-count : goal.overflow_add-count
overflow_add-count c = omega (arith, rank_within c.args.flags.now c.states.flag-index, c.states.invariant.count, c.states-test.true, c.requires, c.ranges.states)

pub states-preserved : goal.states-preserved
states-preserved c = record {
  ranks = mapped_more (flagged_before c.args.flags.now) c.states.ranks c.push.new.self c.states.flag-index c.states.count c.states.invariant.ranks c.states.invariant.count c.in_ok-push.ensures.ok;
  count = rank_set c.args.flags.now c.states.flag-index c.states.count c.states-test.true c.states.invariant.count c.if-not-flag.false;
}
