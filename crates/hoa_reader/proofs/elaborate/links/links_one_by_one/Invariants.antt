use Rattle.std.proofs.Common.{◌≡◌, true, All, map}
use Rattle.std.specs.List.{list_all}
use Rattle.std.specs.Prelude.{flat_map}
use Rattle.std.specs.Vec.Iter.{into_iter_items}
use Rattle.hoa_parser.specs.Raw.{written_state}
use Rattle.hoa_reader.proofs.labels.LinkedEdges.{AreOnTheWay}
use Rattle.hoa_reader.specs.Validity.{marks_below}
use Rattle.hoa_reader.specs.inner.TreeEdges.{HasLabelsBelow, settled, tree_edges_for}
use Rattle.hoa_reader.proofs.elaborate.links.links_one_by_one.Given as goal

abbrev pub invariant-states : goal.invariant-states
invariant-states l =
    let left = map written_state (into_iter_items l.state-iterator) in
    let n = l.fn.guards.names in
    record {
      names : l.guards.names ≡ n;
      marks : list_all (marks_below l.shared.sets) left ≡ true;
      below : All (HasLabelsBelow l.shared n) left;
      way : AreOnTheWay l.guards l.links (map (settled n) (flat_map (tree_edges_for l.shared) left))
          (map (settled n) (flat_map (tree_edges_for l.shared) (map written_state l.fn.states)));
    }
