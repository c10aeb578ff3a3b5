-- Laws of trees, for the conditions in memory whose trees they are.
use Rattle.std.proofs.Common.{◌≡◌, Result, sym, subst}
use Rattle.std.specs.Prelude.{IfOk}
use Rattle.std.proofs.lemmas.Result.{IfOk-weaker}
use Rattle.aut_base.specs.Formula.{FormulaTree, formula_tree}
use Rattle.aut_base.specs.declared.formula.Formula.{Formula}

pub holds_of_new : {E : Type 0} (r : Result Formula E) (t : FormulaTree) (Q : FormulaTree → Type 0) → Q t → IfOk r (λ new. formula_tree new ≡ t) → IfOk r (λ new. Q (formula_tree new))
holds_of_new r t Q holds made = IfOk-weaker r (λ new. formula_tree new ≡ t) (λ new. Q (formula_tree new)) (λ new is. subst Q (sym is) holds) made
