use Rattle.std.proofs.Common.{◌∙◌, ap, flat_map, sym}
use Rattle.std.proofs.lemmas.Result.{IfOk-weaker}
use Rattle.acc_forms.proofs.JoinLaws.{parts_under-And}
use Rattle.acc_forms.specs.Joined.{conjuncts}
use Rattle.aut_base.specs.Formula.{formula_tree}
use Rattle.degeneralise.specs.Buchi.{inf_literals}
use Rattle.degeneralise.proofs.generalised.inf_literals.Goals as goal

pub returns-in-And : goal.returns-in-And
returns-in-And c =
    let is = ap (λ f. flat_map inf_literals (conjuncts (formula_tree f))) c.in-And.is ∙ ap (flat_map inf_literals) (parts_under-And c.in-And.parts) in
    IfOk-weaker c.literals_of.result _ _ (λ found e. e ∙ sym is) c.literals_of.ensures
