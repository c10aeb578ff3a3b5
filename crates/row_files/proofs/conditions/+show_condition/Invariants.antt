-- Each part is smaller than the whole.
use Rattle.std.proofs.Common.{◌+◌, ◌*◌}
use Rattle.aut_base.specs.Formula.{formula_tree, formula_list, formula_size, formulas_size, trees}
use Rattle.row_files.proofs.conditions.+show_condition.Given as goal

abbrev pub decreases-show_condition : goal.decreases-show_condition
decreases-show_condition l = 2 * formula_size (formula_tree l.condition.now)

abbrev pub decreases-show_parts : goal.decreases-show_parts
decreases-show_parts l = 2 * formulas_size (trees (formula_list l.parts.now)) + 1
