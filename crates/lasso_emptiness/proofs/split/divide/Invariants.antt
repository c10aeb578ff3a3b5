use Rattle.std.proofs.Common.{length}
use Rattle.lasso_emptiness.proofs.components.Dividing.{DividedSoFar}
use Rattle.lasso_emptiness.proofs.split.divide.Given as goal

abbrev pub invariant-groups : goal.invariant-groups
invariant-groups l = DividedSoFar l.links l.side.set l.side.neg l.fn.groups.items l.groups.items l.off l.crossed.items

abbrev pub decreases-groups : goal.decreases-groups
decreases-groups l = length l.groups.items
