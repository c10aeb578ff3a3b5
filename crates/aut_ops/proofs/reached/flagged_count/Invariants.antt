use Rattle.std.proofs.Common.{◌≡◌}
use Rattle.aut_ops.specs.Trimming.{flagged_before}
use Rattle.aut_ops.proofs.reached.flagged_count.Given as goal

abbrev pub invariant-flags : goal.invariant-flags
invariant-flags l = l.count ≡ flagged_before l.flags l.flag-index
