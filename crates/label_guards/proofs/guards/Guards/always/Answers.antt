use Rattle.label_guards.proofs.labelled.LabelTruth.{always_is}
use Rattle.label_guards.proofs.guards.Guards.always.Goals as goal

pub returns : goal.returns
returns c = always_is _ c.reduced.ensures
