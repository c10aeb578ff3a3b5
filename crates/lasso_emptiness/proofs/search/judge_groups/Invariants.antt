use Rattle.std.proofs.Common.{length}
use Rattle.aut_base.specs.Formula.{formula_tree}
use Rattle.lasso_emptiness.proofs.components.Dividing.{JudgedSoFar}
use Rattle.lasso_emptiness.proofs.search.judge_groups.Given as goal

abbrev pub invariant-groups : goal.invariant-groups
invariant-groups l = JudgedSoFar l.links (formula_tree l.condition) l.fn.groups.items l.groups.items l.left.items l.undecided

abbrev pub decreases-groups : goal.decreases-groups
decreases-groups l = length l.groups.items
