use Rattle.std.proofs.Common.{◌-◌, ◌≤◌}
use Rattle.label_guards.proofs.letters.differing.Given as goal

abbrev pub invariant-bits : goal.invariant-bits
invariant-bits l = l.count ≤ l.most

abbrev pub decreases-bits : goal.decreases-bits
decreases-bits l = l.most - l.count
