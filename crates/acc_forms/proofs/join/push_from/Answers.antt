use Rattle.aut_base.specs.Formula.{formula_tree, formula_list}
use Rattle.aut_base.proofs.lists.Steps.{rest_more}
use Rattle.acc_forms.proofs.join.push_from.Goals as goal

pub parts-preserved : goal.parts-preserved
parts-preserved c =
    rest_more (formula_list c.args.more.now) c.parts.place (formula_tree c.at.result.now) (formula_list c.parts.parts) _ _ _
    c.at.ensures c.parts.invariant c.in_ok-part.ensures c.in_ok-push.ensures.ok
