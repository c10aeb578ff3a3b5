use Rattle.std.proofs.Common.{flat_map, map, take}
use Rattle.aut_core.specs.SymbolicAutomata.{edge_of}
use Rattle.fin_removal.specs.Copies.{main_edges}
use Rattle.fin_removal.specs.inner.Links.{AddsLinks}
use Rattle.fin_removal.proofs.links.push_main_copy.Given as goal

abbrev pub invariant-links : goal.invariant-links
invariant-links l = AddsLinks l.a.store l.fn.links l.links (flat_map (main_edges l.a.states l.copies) (map (edge_of l.a.store) (take l.link-index l.link-items)))
