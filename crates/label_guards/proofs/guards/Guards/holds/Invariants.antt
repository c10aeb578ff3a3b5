use Rattle.std.proofs.Common.{◌≡◌}
use Rattle.aut_base.specs.Label.{holds_at}
use Rattle.label_guards.specs.Store.{HasPlace, outcome}
use Rattle.label_guards.proofs.guards.Guards.holds.Given as goal

abbrev pub invariant-walk : goal.invariant-walk
invariant-walk l = record {
  has : HasPlace l.self l.place;
  truth : outcome l.self.nodes (holds_at l.names l.letter) l.place ≡ outcome l.self.nodes (holds_at l.names l.letter) l.fn.g.place;
}

abbrev pub decreases-walk : goal.decreases-walk
decreases-walk l = l.place
