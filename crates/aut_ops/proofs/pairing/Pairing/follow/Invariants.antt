use Rattle.std.proofs.Common.{◌≤◌, length, take}
use Rattle.aut_base.specs.declared.limit.TheConstants.{MOST_PAIRS}
use Rattle.aut_ops.specs.inner.Pairings.{AddsJointEdges, followed}
use Rattle.aut_ops.proofs.pairing.Pairing.follow.Given as goal

abbrev pub invariant-others : goal.invariant-others
invariant-others l = record {
  adds : AddsJointEdges l.fn.self l.self (followed l.fn.self.store l.sets (take l.other-index l.others) l.link);
  few : length l.self.pairs ≤ MOST_PAIRS;
}
