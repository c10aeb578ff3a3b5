use Rattle.std.proofs.Common.{◌≡◌, map, take}
use Rattle.aut_ops.specs.inner.Renumbering.{reversed_arc}
use Rattle.aut_ops.proofs.pruning.turned.Given as goal

abbrev pub invariant-arcs : goal.invariant-arcs
invariant-arcs l = l.arcs ≡ map reversed_arc (take l.arc-index l.graph.arcs)
