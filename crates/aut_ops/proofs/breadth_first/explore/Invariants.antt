use Rattle.std.proofs.Common.{◌-◌}
use Rattle.aut_base.specs.declared.limit.TheConstants.{MOST_PAIRS}
use Rattle.aut_ops.proofs.pairs.Explorations.{IsExplored}
use Rattle.aut_ops.proofs.breadth_first.explore.Given as goal

abbrev pub invariant-pairs : goal.invariant-pairs
invariant-pairs l = IsExplored MOST_PAIRS l.a l.b l.fn.pairing l.pairing l.done

abbrev pub decreases-pairs : goal.decreases-pairs
decreases-pairs l = MOST_PAIRS - l.done
