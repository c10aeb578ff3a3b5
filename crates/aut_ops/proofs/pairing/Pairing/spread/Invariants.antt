use Rattle.std.proofs.Common.{◌≤◌, length, take}
use Rattle.std.specs.Prelude.{flat_map}
use Rattle.aut_base.specs.declared.limit.TheConstants.{MOST_PAIRS}
use Rattle.aut_ops.specs.inner.Pairings.{AddsJointEdges, followed}
use Rattle.aut_ops.proofs.pairing.Pairing.spread.Given as goal

abbrev pub invariant-links : goal.invariant-links
invariant-links l = record {
  adds : AddsJointEdges l.fn.self l.self (flat_map (followed l.fn.self.store l.sets l.others) (take l.link-index l.links));
  few : length l.self.pairs ≤ MOST_PAIRS;
}
