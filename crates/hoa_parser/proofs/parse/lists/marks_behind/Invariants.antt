use Rattle.hoa_parser.proofs.reading.Loops.{GoesOn, bytes_left}
use Rattle.hoa_parser.specs.inner.Expecting as part
use Rattle.hoa_parser.specs.inner.Parsing.{reader_state}
use Rattle.hoa_parser.proofs.grammar.Values.{AddsInts}
use Rattle.hoa_parser.proofs.parse.lists.marks_behind.Given as goal

abbrev pub invariant-marks : goal.invariant-marks
invariant-marks g l = GoesOn part.Marks (AddsInts l.fn.marks l.marks) (reader_state l.fn.lexer l.fn.ahead (g.I.Inputs.seen l.fn.inputs)) (reader_state l.lexer l.ahead (g.I.Inputs.seen l.inputs))

abbrev pub decreases-marks : goal.decreases-marks
decreases-marks g l = bytes_left l.lexer
