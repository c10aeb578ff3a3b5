-- The root holds a state exactly where a run leads to it.
use Rattle.std.proofs.Common.{[]}
use Rattle.safra_trees.specs.Trees.{first_tree}
use Rattle.safra_laws.proofs.backward.Starts.{first_reached, reached_along}
use Rattle.safra_laws.proofs.forward.Runs.{after_rooted}
use Rattle.safra_laws.proofs.invariant.FirstTree.{first_rooted}
use Rattle.safra_laws.specs.Trees.{RootIsReached}

pub root_is_reached : RootIsReached
root_is_reached n starts w q starts_below goals = (
  (λ here. reached_along n starts [] w (first_tree n starts) (first_reached n starts) 0 q here),
  (λ found. after_rooted n found.start q (first_tree n starts) w found.path goals found.leads (first_rooted n starts found.start found.is_start (starts_below found.start found.is_start))),
)
