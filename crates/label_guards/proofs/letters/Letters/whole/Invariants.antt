use Rattle.std.proofs.Common.{◌≡◌, ◌+◌, length}
use Rattle.label_guards.specs.Letters.{AreLastPlaces, IsLastPlace}
use Rattle.label_guards.specs.Nodes.{Grows}
use Rattle.label_guards.proofs.letters.Letters.whole.Given as goal

abbrev pub invariant-props : goal.invariant-props
invariant-props l = record {
  grows : Grows l.fn.guards l.guards;
  letters : AreLastPlaces l.guards l.self;
  number : l.self.number ≡ l.fn.self.number;
  next : l.left + length l.self.places ≡ l.fn.guards.names;
  place : IsLastPlace l.guards l.fn.self.number (length l.self.places) l.place;
}

abbrev pub decreases-props : goal.decreases-props
decreases-props l = l.left
