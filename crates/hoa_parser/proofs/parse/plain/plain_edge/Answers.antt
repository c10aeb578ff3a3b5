use Rattle.hoa_parser.proofs.plain.Edges.{plain}
use Rattle.hoa_parser.proofs.parse.plain.plain_edge.Goals as goal

pub returns : goal.returns
returns c = plain c.in_ok-label.label c.in_ok-marks.marks c.in_ok-ends.ends c.in_ok-goal.goal c.args.bytes.now c.solid.result.now _ _ _ _ _
    c.solid.ensures c.in_ok-label.ensures c.in_ok-rest.ensures c.in_ok-goal.ensures c.in_ok-marks.ensures c.in_ok-ends.ensures c.in_ok-next.ensures
