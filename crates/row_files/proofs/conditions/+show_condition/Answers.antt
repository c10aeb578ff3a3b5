use Rattle.std.proofs.Common.{arith}
use Rattle.aut_base.specs.Formula.{formula_tree, formula_list}
use Rattle.aut_base.proofs.trees.FormulaSizes.{formula_size-at}
use Rattle.row_files.proofs.conditions.+show_condition.Goals as goal

pub show_parts-show_condition-requires : goal.show_parts-show_condition-requires
show_parts-show_condition-requires t c =
    let smaller = formula_size-at (formula_list c.args.parts.now) c.parts.place (formula_tree c.at.result.now) c.at.ensures in
    (omega arith, tt)
