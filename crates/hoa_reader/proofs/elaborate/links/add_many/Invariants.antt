use Rattle.std.proofs.Common.{◌≡◌, ◌+◌, ◌++◌, true, length, map}
use Rattle.std.specs.List.{AllByRecursion, list_all}
use Rattle.aut_base.specs.Automaton.{LabelledEdge}
use Rattle.aut_base.specs.Label.{AllBelow}
use Rattle.aut_core.specs.SymbolicAutomata.{edge_of}
use Rattle.hoa_parser.specs.Raw.{WrittenEdge, written_state}
use Rattle.hoa_reader.proofs.labels.LinkedEdges.{AreOnTheWay, edges_left}
use Rattle.hoa_reader.specs.Validity.{numbers_below}
use Rattle.hoa_reader.specs.inner.TreeEdges.{settled, tree_edges_at, tree_edges_for}
use Rattle.hoa_reader.proofs.elaborate.links.add_many.Given as goal

abbrev pub invariant-left : goal.invariant-left
invariant-left l =
    let left = tree_edges_at l.shared (written_state l.fn.state) l.first (edges_left l.blocks) in
    let n = l.fn.guards.names in
    record {
      names : l.guards.names ≡ n;
      count : l.first + length (edges_left l.blocks) ≡ length l.fn.state.edges;
      marks : list_all (λ (e : WrittenEdge). numbers_below l.shared.sets e.marks) (edges_left l.blocks) ≡ true;
      below : AllByRecursion (λ (e : LabelledEdge). AllBelow n e.label) left;
      way : AreOnTheWay l.guards l.links (map (settled n) left)
          (map (edge_of l.fn.guards) l.fn.links ++ map (settled n) (tree_edges_for l.shared (written_state l.fn.state)));
    }

abbrev pub decreases-left : goal.decreases-left
decreases-left l = length l.blocks
