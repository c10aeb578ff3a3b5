use Rattle.label_guards.specs.Store.{Keeps}
use Rattle.unambiguous.specs.Parted.{AreEnds, AreFlagged}
use Rattle.unambiguous.proofs.twins.twin_ends.Given as goal

abbrev pub invariant-links : goal.invariant-links
invariant-links l = record {
  keeps : Keeps l.fn.guards l.guards;
  ends : AreEnds l.a l.pairs.keys l.flags.items;
  flagged : AreFlagged l.a l.pairs.keys l.flags.items l.place;
}
