use Rattle.std.proofs.Common.{◌≡◌, filter, take}
use Rattle.aut_ops.specs.inner.Renumbering.{link_stays}
use Rattle.aut_ops.proofs.passable.links_between.Given as goal

abbrev pub invariant-links : goal.invariant-links
invariant-links l = l.links ≡ filter (link_stays l.a l.flags) (take l.link-index l.a.links)
