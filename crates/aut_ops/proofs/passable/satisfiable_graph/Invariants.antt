use Rattle.std.proofs.Common.{◌≡◌, filter, map, take}
use Rattle.aut_ops.specs.inner.Renumbering.{link_arc, link_passable}
use Rattle.aut_ops.proofs.passable.satisfiable_graph.Given as goal

abbrev pub invariant-links : goal.invariant-links
invariant-links l = l.arcs ≡ map link_arc (filter (link_passable l.a) (take l.link-index l.a.links))
