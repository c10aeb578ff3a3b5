-- Each part is smaller than the whole.
use Rattle.std.proofs.Common.{◌+◌, ◌*◌}
use Rattle.aut_base.specs.Formula.{formula_tree, formula_list, formula_size, formulas_size, trees}
use Rattle.row_automata.proofs.conditions.+meets.Given as goal

abbrev pub decreases-meets : goal.decreases-meets
decreases-meets l = 2 * formula_size (formula_tree l.condition.now)

abbrev pub decreases-has_value : goal.decreases-has_value
decreases-has_value l = 2 * formulas_size (trees (formula_list l.parts.now)) + 1
