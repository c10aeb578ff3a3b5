use Rattle.std.proofs.Common.{arith}
use Rattle.aut_base.specs.Formula.{formula_tree}
use Rattle.aut_base.proofs.trees.FormulaTrees.{formula_list-fields}
use Rattle.aut_base.proofs.trees.Places.{tree_behind_two}
use Rattle.aut_base.proofs.formula.Formulas.at.Goals as goal

pub returns-in_default : goal.returns-in_default
returns-in_default c =
    let parts = c.args.self.now in
    tree_behind_two formula_tree _ _ parts.others.items _ c.args.place _ (formula_list-fields parts) (omega arith) c.requires c.index.ensures
