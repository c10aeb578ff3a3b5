use Rattle.label_guards.specs.declared.guards.Operation.TheVariants.{Or}
use Rattle.label_guards.proofs.labelled.LabelTruth.{joined_guard}
use Rattle.label_guards.proofs.guards.Guards.or.Goals as goal

pub returns-clause-or : goal.returns-clause-or
returns-clause-or c = joined_guard c.reduced.ensures c.reduced-2.ensures c.combine.ensures.grows Or _ _ _ c.requires.left c.requires.right c.in_ok-place.ensures.joined
