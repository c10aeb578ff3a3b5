use Rattle.std.proofs.Common.{map, take}
use Rattle.aut_core.specs.SymbolicAutomata.{edge_of}
use Rattle.fin_removal.specs.inner.Links.{AddsLinks}
use Rattle.degeneralise.specs.Buchi.{edge_at_level}
use Rattle.degeneralise.proofs.links.push_level.Given as goal

abbrev pub invariant-links : goal.invariant-links
invariant-links l = AddsLinks l.a.store l.fn.links l.links (map (edge_at_level l.k l.watch l.level) (map (edge_of l.a.store) (take l.link-index l.link-items)))
