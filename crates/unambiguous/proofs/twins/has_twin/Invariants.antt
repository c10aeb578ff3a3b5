use Rattle.std.proofs.Common.{ℕ, ◌<◌}
use Rattle.label_guards.specs.Store.{Keeps}
use Rattle.unambiguous.specs.Parted.{AreTwins}
use Rattle.unambiguous.proofs.twins.has_twin.Given as goal

abbrev pub invariant-others : goal.invariant-others
invariant-others l = record {
  keeps : Keeps l.fn.guards l.guards;
  none : (n q : ℕ) → n < l.other_place → AreTwins l.a l.pairs.keys l.place n q → ⊥;
}
