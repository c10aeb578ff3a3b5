use Rattle.std.proofs.Common.{◌∙◌, arith}
use Rattle.label_guards.proofs.labelled.LabelTruth.{truth_is, walked}
use Rattle.label_guards.proofs.guards.Guards.holds_at.Goals as goal

pub returns-clause-label : goal.returns-clause-label
returns-clause-label c = walked _ c.reduced.ensures c.args.g c.requires _ c.walk.place (omega arith) c.walk.invariant.truth

pub returns-clause-place : goal.returns-clause-place
returns-clause-place c = walked _ c.reduced.ensures c.args.g c.requires _ c.walk.place (omega arith) c.walk.invariant.truth ∙ truth_is _ c.reduced.ensures c.args.g c.requires _
