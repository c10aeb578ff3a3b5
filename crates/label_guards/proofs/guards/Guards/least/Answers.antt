use Rattle.std.proofs.lemmas.Result.{IfOk-weaker}
use Rattle.label_guards.proofs.valuations.Leasts.{least_of_label}
use Rattle.label_guards.proofs.guards.Guards.least.Goals as goal

pub returns-clause-label : goal.returns-clause-label
returns-clause-label c = IfOk-weaker c.least_with.result _ _ (least_of_label _ c.reduced.ensures c.args.g c.requires) c.least_with.ensures.least
