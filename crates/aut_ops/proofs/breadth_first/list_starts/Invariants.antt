use Rattle.std.proofs.Common.{◌≡◌, ◌≤◌, [], length, take}
use Rattle.aut_ops.specs.inner.Parts.{all_pairs}
use Rattle.aut_base.specs.declared.limit.TheConstants.{MOST_PAIRS}
use Rattle.aut_ops.specs.inner.Pairings.{ArePairsListed}
use Rattle.aut_ops.proofs.breadth_first.list_starts.Given as goal

abbrev pub invariant-firsts : goal.invariant-firsts
invariant-firsts l = record {
  store : l.pairing.store ≡ l.fn.pairing.store;
  links : l.pairing.links ≡ l.fn.pairing.links;
  listed : ArePairsListed [] l.pairing.pairs [] l.starts (all_pairs (take l.first-index l.firsts) l.seconds);
  few : length l.pairing.pairs ≤ MOST_PAIRS;
}
