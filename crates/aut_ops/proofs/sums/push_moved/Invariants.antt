use Rattle.std.proofs.Common.{◌≡◌, ◌++◌, map, take}
use Rattle.aut_ops.specs.inner.Linked.{moved_link}
use Rattle.aut_ops.proofs.sums.push_moved.Given as goal

abbrev pub invariant-links : goal.invariant-links
invariant-links l = l.links ≡ l.fn.links ++ map (moved_link l.states l.sets l.fresh) (take l.link-index l.more)
