use Rattle.std.proofs.Common.{map}
use Rattle.aut_base.proofs.lists.Steps.{any_more}
use Rattle.aut_base.specs.Formula.{formula_list, formula_tree, met}
use Rattle.lasso_emptiness.specs.inner.Edges.{marks_of}
use Rattle.lasso_emptiness.proofs.conditions.Judgements.{not_met}
use Rattle.lasso_emptiness.proofs.needed.met_part.Goals as goal

pub parts-preserved : goal.parts-preserved
parts-preserved c =
    let cycle = map (marks_of c.args.links.now) c.args.edges.now in
    let part = formula_tree c.at-part.result.now in
    any_more (met cycle) (formula_list c.args.parts.now) c.parts.place part c.at-part.ensures c.parts.invariant (not_met cycle part c.judge.result c.judge.ensures c.in_default.not-Met)

pub returns-in-Met-clause-part : goal.returns-in-Met-clause-part
returns-in-Met-clause-part c = (c.parts.place, c.at-part.ensures)
