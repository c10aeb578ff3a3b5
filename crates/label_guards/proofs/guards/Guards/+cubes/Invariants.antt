-- A side of a node lies before it.
use Rattle.std.proofs.Common.{◌+◌, ◌*◌}
use Rattle.label_guards.proofs.guards.Guards.+cubes.Given as goal

abbrev pub decreases-push_place : goal.decreases-push_place
decreases-push_place l = 2 * l.place

abbrev pub decreases-push_side : goal.decreases-push_side
decreases-push_side l = 2 * l.place + 1
