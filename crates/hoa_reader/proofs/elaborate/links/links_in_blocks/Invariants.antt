use Rattle.std.proofs.Common.{◌≡◌, true, All, length, map}
use Rattle.std.specs.List.{list_all}
use Rattle.std.specs.Prelude.{flat_map}
use Rattle.hoa_reader.proofs.labels.LinkedEdges.{AreOnTheWay, states_left}
use Rattle.hoa_reader.specs.Validity.{marks_below}
use Rattle.hoa_reader.specs.inner.TreeEdges.{HasLabelsBelow, settled, tree_edges_for}
use Rattle.hoa_parser.specs.Raw.{written_state}
use Rattle.hoa_reader.proofs.elaborate.links.links_in_blocks.Given as goal

abbrev pub invariant-left : goal.invariant-left
invariant-left l =
    let n = l.fn.guards.names in
    record {
      names : l.guards.names ≡ n;
      marks : list_all (marks_below l.shared.sets) (states_left l.blocks) ≡ true;
      below : All (HasLabelsBelow l.shared n) (states_left l.blocks);
      way : AreOnTheWay l.guards l.links (map (settled n) (flat_map (tree_edges_for l.shared) (states_left l.blocks)))
          (map (settled n) (flat_map (tree_edges_for l.shared) (map written_state l.fn.states)));
    }

abbrev pub decreases-left : goal.decreases-left
decreases-left l = length l.blocks
