use Rattle.hoa_parser.proofs.plain.Edges.{marks_end, marks_none, marks_push}
use Rattle.hoa_parser.proofs.parse.plain.marks.Goals as goal

pub marks-init : goal.marks-init
marks-init c = marks_none _ _ c.new-marks.ensures

pub returns-in-Some : goal.returns-in-Some
returns-in-Some c = marks_end c.marks.marks _ _ _ c.marks.invariant c.in-Some.ensures

pub marks-preserved : goal.marks-preserved
marks-preserved c = marks_push _ _ _ _ _ _ c.in-Ok.ensures.ok c.marks.invariant c.in_ok-mark-in-None.ensures
