use Rattle.unambiguous.specs.Parted.{ArePartings}
use Rattle.unambiguous.proofs.parted.partings.Given as goal

abbrev pub invariant-places : goal.invariant-places
invariant-places l = ArePartings l.flags l.pairs.keys l.place l.starts
