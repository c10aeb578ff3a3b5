use Rattle.lasso_emptiness.proofs.conditions.Marked.{inf_met, inf_never}
use Rattle.lasso_emptiness.proofs.judge.judge_inf.Goals as goal

pub returns-in-Some : goal.returns-in-Some
returns-in-Some c = inf_met c.args.links.now c.args.edges.now c.args.side.set c.args.side.neg _ c.in-Some.ensures.0 c.in-Some.ensures.1

pub returns-in-None : goal.returns-in-None
returns-in-None c = inf_never c.args.links.now c.args.edges.now c.args.side.set c.args.side.neg c.in-None.ensures
