use Rattle.std.proofs.Common.{◌≡◌, map, drop}
use Rattle.hoa_reader.specs.inner.PickedOut.{label_refs}
use Rattle.hoa_reader.specs.inner.Weighing.{are_tall}
use Rattle.hoa_reader.proofs.elaborate.counts.are_tall.Given as goal

abbrev pub invariant-labels : goal.invariant-labels
invariant-labels l = are_tall l.known (map label_refs (drop l.label-index l.labels)) ≡ are_tall l.known (map label_refs l.labels)
