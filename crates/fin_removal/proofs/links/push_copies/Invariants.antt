use Rattle.std.proofs.Common.{flat_map, map, take}
use Rattle.aut_core.specs.SymbolicAutomata.{edge_of}
use Rattle.fin_removal.specs.Copies.{copy_edges}
use Rattle.fin_removal.specs.inner.Links.{AddsLinks}
use Rattle.fin_removal.proofs.links.push_copies.Given as goal

abbrev pub invariant-copies : goal.invariant-copies
invariant-copies l = AddsLinks l.a.store l.fn.links l.links (flat_map (copy_edges l.a.states (map (edge_of l.a.store) l.a.links)) (take l.copy-index l.copy-items))
