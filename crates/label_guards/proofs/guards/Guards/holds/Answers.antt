use Rattle.std.proofs.Common.{arith}
use Rattle.label_guards.proofs.labelled.LabelTruth.{walked}
use Rattle.label_guards.proofs.guards.Guards.holds.Goals as goal

pub returns : goal.returns
returns c = walked _ c.reduced.ensures c.args.g c.requires.has _ c.walk.place (omega arith) c.walk.invariant.truth
