use Rattle.std.proofs.Common.{◌≡◌, filter, length, take}
use Rattle.aut_ops.specs.inner.Renumbering.{link_stays}
use Rattle.aut_ops.proofs.reached.staying_count.Given as goal

abbrev pub invariant-links : goal.invariant-links
invariant-links l = l.count ≡ length (filter (link_stays l.a l.flags) (take l.link-index l.a.links))
