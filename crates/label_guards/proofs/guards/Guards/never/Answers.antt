use Rattle.label_guards.proofs.labelled.LabelTruth.{never_is}
use Rattle.label_guards.proofs.guards.Guards.never.Goals as goal

pub returns : goal.returns
returns c = never_is _ c.reduced.ensures
