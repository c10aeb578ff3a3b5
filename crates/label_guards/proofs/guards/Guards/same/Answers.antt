use Rattle.label_guards.proofs.labelled.LabelTruth.{same_labels, same_valuations, same_letters}
use Rattle.label_guards.proofs.guards.Guards.same.Goals as goal

pub returns-clause-labels : goal.returns-clause-labels
returns-clause-labels c = same_labels _ c.reduced.ensures _ _ c.requires.left c.requires.right

pub returns-clause-valuations : goal.returns-clause-valuations
returns-clause-valuations c = same_valuations _ c.reduced.ensures _ _ c.requires.left c.requires.right

pub returns-clause-letters : goal.returns-clause-letters
returns-clause-letters c = same_letters _ c.reduced.ensures _ _ c.requires.left c.requires.right
