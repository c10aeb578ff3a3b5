use Rattle.std.proofs.Common.{map, take}
use Rattle.aut_core.specs.SymbolicAutomata.{edge_of}
use Rattle.fin_removal.specs.Copies.{copy_edges}
use Rattle.fin_removal.specs.inner.Links.{AddsLinks}
use Rattle.fin_removal.proofs.links.push_copy.Given as goal

abbrev pub invariant-links : goal.invariant-links
invariant-links l = AddsLinks l.a.store l.fn.links l.links (copy_edges l.a.states (map (edge_of l.a.store) (take l.link-index l.link-items)) l.copy)
