use Rattle.std.proofs.Common.{◌≡◌, map, take}
use Rattle.aut_ops.specs.inner.Renumbering.{new_link}
use Rattle.aut_ops.proofs.renumbering.renumbered_links.Given as goal

abbrev pub invariant-links : goal.invariant-links
invariant-links l = l.new ≡ map (new_link l.ranks) (take l.link-index l.links)
