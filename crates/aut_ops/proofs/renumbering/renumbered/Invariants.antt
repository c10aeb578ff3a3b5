use Rattle.std.proofs.Common.{◌≡◌, map, take}
use Rattle.aut_ops.specs.inner.Renumbering.{new_number}
use Rattle.aut_ops.proofs.renumbering.renumbered.Given as goal

abbrev pub invariant-states : goal.invariant-states
invariant-states l = l.new ≡ map (new_number l.ranks) (take l.state-index l.states)
