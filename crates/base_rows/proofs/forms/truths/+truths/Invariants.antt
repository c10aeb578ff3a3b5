-- Each part is smaller than the whole.
use Rattle.std.proofs.Common.{◌+◌, ◌*◌}
use Rattle.aut_base.specs.Formula.{formula_tree, formula_list, formula_size, formulas_size, trees}
use Rattle.base_rows.proofs.forms.truths.+truths.Given as goal

abbrev pub decreases-truths : goal.decreases-truths
decreases-truths l = 2 * formula_size (formula_tree l.formula.now)

abbrev pub decreases-truths_of_some : goal.decreases-truths_of_some
decreases-truths_of_some l = 2 * formulas_size (trees (formula_list l.parts.now)) + 1
