-- Each part is smaller than the whole; the parts so far are met, or a `Fin` in them is open.
use Rattle.std.proofs.Common.{◌+◌, ◌*◌, map}
use Rattle.aut_base.specs.Formula.{formula_tree, formula_list, formula_size, formulas_size, trees}
use Rattle.lasso_emptiness.specs.inner.Edges.{marks_of}
use Rattle.lasso_emptiness.proofs.conditions.Judgements.{AllSoFar, OneSoFar}
use Rattle.lasso_emptiness.proofs.judge.+judge.Given as goal

abbrev pub decreases-judge : goal.decreases-judge
decreases-judge l = 2 * formula_size (formula_tree l.condition.now)

abbrev pub decreases-judge_all : goal.decreases-judge_all
decreases-judge_all l = 2 * formulas_size (trees (formula_list l.parts.now)) + 1

abbrev pub decreases-judge_some : goal.decreases-judge_some
decreases-judge_some l = 2 * formulas_size (trees (formula_list l.parts.now)) + 1

abbrev pub invariant-judge_all-parts : goal.invariant-judge_all-parts
invariant-judge_all-parts l = AllSoFar (map (marks_of l.links) l.edges) (formula_list l.parts) l.place l.undecided

abbrev pub invariant-judge_some-parts : goal.invariant-judge_some-parts
invariant-judge_some-parts l = OneSoFar (map (marks_of l.links) l.edges) (formula_list l.parts) l.place l.undecided
