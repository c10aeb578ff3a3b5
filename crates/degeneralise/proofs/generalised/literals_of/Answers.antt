use Rattle.std.proofs.Common.{◌∙◌, ◌++◌, ap}
use Rattle.aut_base.proofs.lists.Steps.{flat_map_on}
use Rattle.aut_base.specs.Formula.{formula_list, formula_tree}
use Rattle.degeneralise.specs.Buchi.{inf_literals}
use Rattle.degeneralise.proofs.generalised.literals_of.Goals as goal

pub parts-preserved : goal.parts-preserved
parts-preserved c =
    c.in_ok-push_inf.ensures
    ∙ (ap (λ ls. ls ++ inf_literals (formula_tree c.at.result.now)) c.parts.invariant
    ∙ flat_map_on inf_literals (formula_list c.args.parts.now) c.parts.place (formula_tree c.at.result.now) c.at.ensures)
