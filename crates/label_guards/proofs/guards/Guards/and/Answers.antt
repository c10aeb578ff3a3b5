use Rattle.label_guards.specs.declared.guards.Operation.TheVariants.{And}
use Rattle.label_guards.proofs.labelled.LabelTruth.{joined_guard}
use Rattle.label_guards.proofs.guards.Guards.and.Goals as goal

pub returns-clause-and : goal.returns-clause-and
returns-clause-and c = joined_guard c.reduced.ensures c.reduced-2.ensures c.combine.ensures.grows And _ _ _ c.requires.left c.requires.right c.in_ok-place.ensures.joined
