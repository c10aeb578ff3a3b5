use Rattle.std.proofs.Common.{◌≡◌, ◌<◌, All, length, map, take}
use Rattle.safra_trees.specs.Flat.{at}
use Rattle.safra_trees.proofs.sight.places_in.Given as goal

abbrev pub invariant-states : goal.invariant-states
invariant-states l = record {
  below : All (λ x. x < length l.sight) l.places.items;
  are : map (at l.sight) l.places.items ≡ take l.state-index l.states;
}
