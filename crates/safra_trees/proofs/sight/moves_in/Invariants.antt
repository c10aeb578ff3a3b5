use Rattle.std.proofs.Common.{◌≡◌, ◌<◌, All, length, map, take}
use Rattle.safra_trees.specs.Events.{IsMoveInRange}
use Rattle.safra_trees.specs.Flat.{at}
use Rattle.safra_trees.specs.inner.Sight.{move_by}
use Rattle.safra_trees.proofs.sight.moves_in.Given as goal

abbrev pub invariant-moves : goal.invariant-moves
invariant-moves l = record {
  within : All (IsMoveInRange (length l.sight)) l.found;
  are : map (move_by (at l.sight)) l.found ≡ take l.one-index l.moves;
}
