use Rattle.hoa_reader.proofs.labels.MarksBelow.{edge_marks_below}
use Rattle.hoa_reader.proofs.elaborate.edges.add_edges.Goals as goal

pub edge_of-requires-clause-marks : goal.edge_of-requires-clause-marks
edge_of-requires-clause-marks c =
    edge_marks_below c.args.shared.now.sets c.args.state.now c.as_slice-edge-items.result.now c.written.edge-index c.edge-item.result c.requires.marks c.as_slice-edge-items.ensures
    c.written-test.true c.edge-item.is
