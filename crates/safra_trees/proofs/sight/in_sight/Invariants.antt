use Rattle.std.proofs.Common.{◌≡◌, ◌++◌, flat_map, take}
use Rattle.safra_trees.specs.inner.Sight.{ends}
use Rattle.safra_trees.proofs.sight.in_sight.Given as goal

abbrev pub invariant-moves : goal.invariant-moves
invariant-moves l = l.found.items ≡ l.states ++ flat_map ends (take l.one-index l.moves)
