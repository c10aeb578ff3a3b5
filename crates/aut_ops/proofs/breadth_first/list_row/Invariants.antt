use Rattle.std.proofs.Common.{◌≡◌, ◌≤◌, length, map, take}
use Rattle.aut_base.specs.declared.limit.TheConstants.{MOST_PAIRS}
use Rattle.aut_ops.specs.inner.Pairings.{ArePairsListed}
use Rattle.aut_ops.proofs.breadth_first.list_row.Given as goal

abbrev pub invariant-seconds : goal.invariant-seconds
invariant-seconds l = record {
  store : l.pairing.store ≡ l.fn.pairing.store;
  links : l.pairing.links ≡ l.fn.pairing.links;
  listed : ArePairsListed l.fn.pairing.pairs l.pairing.pairs l.fn.starts l.starts (map (λ second. (l.first, second)) (take l.second-index l.seconds));
  few : length l.pairing.pairs ≤ MOST_PAIRS;
}
