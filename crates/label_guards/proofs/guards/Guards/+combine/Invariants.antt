-- A look at the nodes goes on at lesser places.
use Rattle.std.proofs.Common.{◌+◌, ◌*◌}
use Rattle.label_guards.proofs.guards.Guards.+combine.Given as goal

abbrev pub decreases-combine : goal.decreases-combine
decreases-combine l = 2 * (l.g + l.h) + 1

abbrev pub decreases-combine_nodes : goal.decreases-combine_nodes
decreases-combine_nodes l = 2 * (l.g + l.h)
