use Rattle.std.proofs.Common.{map, take}
use Rattle.aut_core.specs.SymbolicAutomata.{edge_of}
use Rattle.aut_core.specs.OtherNames.{label_over}
use Rattle.aut_core.specs.Links.{StandFor}
use Rattle.label_guards.specs.Store.{Keeps}
use Rattle.label_guards.specs.Tables.{AreBrought}
use Rattle.aut_core.proofs.automaton.Automaton.links_over.Given as goal

abbrev pub invariant-links : goal.invariant-links
invariant-links l = record {
  keeps : Keeps l.fn.guards l.guards;
  done : AreBrought l.self.store l.guards l.to l.done;
  links : StandFor l.guards l.links (map (λ m. record (edge_of l.self.store m) { label = label_over l.self.names l.names (edge_of l.self.store m).label }) (take l.link-index l.self.links));
}
