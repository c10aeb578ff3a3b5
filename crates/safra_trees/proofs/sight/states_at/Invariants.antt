use Rattle.std.proofs.Common.{◌≡◌, map, take}
use Rattle.safra_trees.specs.Flat.{at}
use Rattle.safra_trees.proofs.sight.states_at.Given as goal

abbrev pub invariant-places : goal.invariant-places
invariant-places l = l.states.items ≡ map (at l.sight) (take l.place-index l.places)
