use Rattle.lasso_emptiness.proofs.conditions.Marked.{fin_met, fin_not_met}
use Rattle.lasso_emptiness.proofs.conditions.Conditions.{has_side-Fin}
use Rattle.lasso_emptiness.proofs.judge.judge_fin.Goals as goal

pub returns-in-Some : goal.returns-in-Some
returns-in-Some c = (has_side-Fin c.args.side.set c.args.side.neg, fin_not_met c.args.links.now c.args.edges.now c.args.side.set c.args.side.neg _ c.in-Some.ensures.0 c.in-Some.ensures.1)

pub returns-in-None : goal.returns-in-None
returns-in-None c = fin_met c.args.links.now c.args.edges.now c.args.side.set c.args.side.neg c.in-None.ensures
