use Rattle.std.proofs.Common.{◌≡◌, ◌++◌, map, drop, ℕ}
use Rattle.std.specs.List.{enumerate_from}
use Rattle.aut_base.specs.Automaton.{labelled_edge}
use Rattle.hoa_reader.specs.inner.TreeEdges.{tree_edge_for}
use Rattle.hoa_parser.specs.Raw.{WrittenEdge, written_edge, written_state}
use Rattle.hoa_reader.proofs.elaborate.edges.add_edges.Given as goal

abbrev pub invariant-written : goal.invariant-written
invariant-written l = record {
  letter : l.letter ≡ l.edge-index;
  added : map labelled_edge l.edges ++ map (λ (p : ℕ × WrittenEdge). tree_edge_for l.shared (written_state l.state) p.0 p.1)
      (enumerate_from l.edge-index (map written_edge (drop l.edge-index l.state.edges))) ≡ map labelled_edge l.initial.edges ++ map
      (λ (p : ℕ × WrittenEdge). tree_edge_for l.shared (written_state l.state) p.0 p.1) (enumerate_from 0 (map written_edge l.state.edges));
}
