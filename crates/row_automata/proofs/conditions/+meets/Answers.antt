-- Each part is smaller than the whole.
use Rattle.std.proofs.Common.{arith}
use Rattle.aut_base.specs.Formula.{formula_tree, formula_list}
use Rattle.aut_base.proofs.trees.FormulaSizes.{formula_size-at}
use Rattle.row_automata.proofs.conditions.+meets.Goals as goal

pub has_value-meets-requires : goal.has_value-meets-requires
has_value-meets-requires t c =
    let smaller = formula_size-at (formula_list c.args.parts.now) c.parts.place (formula_tree c.at.result.now) c.at.ensures in
    (omega arith, tt)
