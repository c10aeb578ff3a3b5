-- Each part is smaller than the whole.
use Rattle.std.proofs.Common.{arith}
use Rattle.aut_base.specs.Formula.{formula_tree, formula_list}
use Rattle.aut_base.proofs.trees.FormulaSizes.{formula_size-at}
use Rattle.base_rows.proofs.forms.truths.+truths.Goals as goal

pub truths_of_some-truths-requires : goal.truths_of_some-truths-requires
truths_of_some-truths-requires t c =
    let smaller = formula_size-at (formula_list c.args.parts.now) c.parts.place (formula_tree c.at.result.now) c.at.ensures in
    (omega arith, tt)
