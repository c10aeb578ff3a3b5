use Rattle.std.proofs.Common.{◌≡◌, ◌+◌, ◌++◌, map}
use Rattle.std.specs.List.{AllByRecursion}
use Rattle.aut_base.specs.Automaton.{LabelledEdge}
use Rattle.aut_base.specs.Label.{AllBelow}
use Rattle.aut_core.specs.SymbolicAutomata.{edge_of}
use Rattle.hoa_parser.specs.Raw.{written_edge, written_state}
use Rattle.hoa_reader.proofs.labels.LinkedEdges.{AreOnTheWay, edges_from}
use Rattle.hoa_reader.specs.inner.TreeEdges.{settled, tree_edges_at}
use Rattle.hoa_reader.proofs.elaborate.links.add_some.Given as goal

abbrev pub invariant-written : goal.invariant-written
invariant-written l =
    let left = edges_from l.shared l.state l.edges l.first l.edge-index in
    let n = l.fn.guards.names in
    record {
      letter : l.letter ≡ l.first + l.edge-index;
      names : l.guards.names ≡ n;
      below : AllByRecursion (λ (e : LabelledEdge). AllBelow n e.label) left;
      way : AreOnTheWay l.guards l.links (map (settled n) left)
          (map (edge_of l.fn.guards) l.fn.links ++ map (settled n) (tree_edges_at l.shared (written_state l.state) l.first (map written_edge l.edges)));
    }
