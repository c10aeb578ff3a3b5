use Rattle.std.proofs.Common.{◌≡◌, take}
use Rattle.safra_trees.proofs.packed.PackedTree.root_states.Given as goal

abbrev pub invariant-states : goal.invariant-states
invariant-states l = l.states.items ≡ take l.state-index l.low
