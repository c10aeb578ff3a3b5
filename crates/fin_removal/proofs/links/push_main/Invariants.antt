use Rattle.std.proofs.Common.{◌∷◌, map, take}
use Rattle.aut_core.specs.SymbolicAutomata.{edge_of}
use Rattle.fin_removal.proofs.Parts.{enter, stay}
use Rattle.fin_removal.specs.inner.Links.{AddsLinks}
use Rattle.fin_removal.proofs.links.push_main.Given as goal

abbrev pub invariant-copies : goal.invariant-copies
invariant-copies l = AddsLinks l.a.store l.fn.links l.links (stay (edge_of l.a.store l.link) ∷ map (enter l.a.states (edge_of l.a.store l.link)) (take l.copy-index l.copy-items))
