use Rattle.label_guards.proofs.labelled.LabelTruth.{false_valuations, false_letters}
use Rattle.label_guards.proofs.guards.Guards.is_false.Goals as goal

pub returns-clause-valuations : goal.returns-clause-valuations
returns-clause-valuations c = false_valuations _ c.reduced.ensures _ c.requires

pub returns-clause-letters : goal.returns-clause-letters
returns-clause-letters c = false_letters _ c.reduced.ensures _ c.requires
