use Rattle.std.proofs.Common.{◌≡◌, ℕ, List, not}
use Rattle.aut_base.specs.Formula.{formula_tree, met}
use Rattle.acc_forms.specs.Dual.{dual}
use Rattle.acc_forms.proofs.DualLaw.{met-dual}
use Rattle.acc_forms.proofs.Meanings.{holds_of_new}
use Rattle.acc_forms.proofs.duality.dual.Goals as goal

pub returns-clause-meaning : goal.returns-clause-meaning
returns-clause-meaning c =
    let tree = formula_tree c.args.formula.now in
    holds_of_new c.exchanged.result (dual tree) (λ new. (cycle : List (List ℕ)) → met cycle new ≡ not (met cycle tree)) (λ cycle. met-dual cycle tree) c.exchanged.ensures
