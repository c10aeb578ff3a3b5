use Rattle.label_guards.proofs.labelled.LabelTruth.{negated_guard}
use Rattle.label_guards.proofs.guards.Guards.not.Goals as goal

pub returns-clause-not : goal.returns-clause-not
returns-clause-not c = negated_guard c.reduced.ensures c.reduced-2.ensures c.combine.ensures.grows _ _ c.requires c.in_ok-place.ensures.joined
