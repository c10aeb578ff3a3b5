use Rattle.made_stream.proofs.Rings.{part_not_empty}
use Rattle.made_stream.proofs.made.place.Place.begin.Goals as goal

pub invariant_of-result : goal.invariant_of-result
invariant_of-result c = record { few = c.args.self.few; in_ring = c.requires; within = part_not_empty _ _ _ }
