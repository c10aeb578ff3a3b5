-- Each substitution for a `Fin` leaves fewer of them in the condition.
use Rattle.std.proofs.Common.{◌+◌, ◌*◌}
use Rattle.aut_base.specs.Formula.{formula_tree}
use Rattle.lasso_emptiness.specs.inner.Judged.{fin_count}
use Rattle.lasso_emptiness.proofs.search.+search.Given as goal

abbrev pub decreases-search : goal.decreases-search
decreases-search l = 2 * fin_count (formula_tree l.condition.now) + 1

abbrev pub decreases-search_in : goal.decreases-search_in
decreases-search_in l = 2 * fin_count (formula_tree l.condition.now)
