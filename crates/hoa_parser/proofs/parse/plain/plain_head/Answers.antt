use Rattle.hoa_parser.proofs.plain.Edges.{plain_state}
use Rattle.hoa_parser.proofs.parse.plain.plain_head.Goals as goal

pub returns : goal.returns
returns c = plain_state c.in_ok-number.number c.in_ok-marks.marks c.args.bytes.now _ _ _ c.in_ok-number.ensures c.in_ok-marks.ensures c.in_ok-next.ensures
