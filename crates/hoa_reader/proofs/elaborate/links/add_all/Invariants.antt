use Rattle.std.proofs.Common.{◌≡◌, ◌++◌, map, take}
use Rattle.std.specs.Prelude.{flat_map}
use Rattle.aut_core.specs.SymbolicAutomata.{edge_of}
use Rattle.aut_core.specs.Links.{StandFor}
use Rattle.hoa_parser.specs.Raw.{written_state}
use Rattle.hoa_reader.specs.inner.TreeEdges.{settled, tree_edges_for}
use Rattle.hoa_reader.proofs.elaborate.links.add_all.Given as goal

abbrev pub invariant-states : goal.invariant-states
invariant-states l = record {
  names : l.guards.names ≡ l.fn.guards.names;
  stand : StandFor l.guards l.links (map (edge_of l.fn.guards) l.fn.links ++ map (settled l.fn.guards.names) (flat_map (tree_edges_for l.shared) (map written_state (take l.state-index l.states))));
}
