use Rattle.std.proofs.Common.{◌≡◌, ◌≤◌, ◌&&◌, ℕ, Bool}
use Rattle.label_guards.specs.Nodes.{Grows, level}
use Rattle.label_guards.specs.Numbers.{is_in_cube}
use Rattle.label_guards.specs.Store.{HasPlace, outcome}
use Rattle.label_guards.proofs.guards.Guards.cube_place.Given as goal

abbrev pub invariant-props : goal.invariant-props
invariant-props l = record {
  grows : Grows l.fn.self l.self;
  few : l.left ≤ l.fn.self.names;
  has : HasPlace l.self l.place;
  later : l.left ≤ level l.self l.place;
  truth : (on : ℕ → Bool) → (is_in_cube l.names l.values l.left on && outcome l.self.nodes on l.place) ≡ is_in_cube l.names l.values l.fn.self.names on;
}

abbrev pub decreases-props : goal.decreases-props
decreases-props l = l.left
