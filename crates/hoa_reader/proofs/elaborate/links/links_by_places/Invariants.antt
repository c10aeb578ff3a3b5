use Rattle.std.proofs.Common.{◌≡◌, map}
use Rattle.aut_core.specs.Links.{StandFor}
use Rattle.hoa_parser.specs.Raw.{written_state}
use Rattle.hoa_reader.specs.inner.TreeEdges.{edges_for, settled}
use Rattle.hoa_reader.proofs.elaborate.links.links_by_places.Given as goal

abbrev pub invariant-numbers : goal.invariant-numbers
invariant-numbers l = record {
  names : l.guards.names ≡ l.fn.guards.names;
  stand : StandFor l.guards l.links (map (settled l.fn.guards.names) (edges_for l.shared (map written_state l.states) l.number));
}
