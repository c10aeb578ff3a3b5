use Rattle.hoa_parser.proofs.reading.Loops.{GoesOn, bytes_left}
use Rattle.hoa_parser.specs.inner.Expecting as part
use Rattle.hoa_parser.specs.inner.Parsing.{reader_state}
use Rattle.hoa_parser.specs.inner.RuleReads.{AreEdgesWritten}
use Rattle.hoa_parser.proofs.parse.body.edges.Given as goal

abbrev pub invariant-edges : goal.invariant-edges
invariant-edges g l = GoesOn part.Edges (AreEdgesWritten l.edges) (reader_state l.fn.lexer l.fn.ahead (g.I.Inputs.seen l.fn.inputs)) (reader_state l.lexer l.ahead (g.I.Inputs.seen l.inputs))

abbrev pub decreases-edges : goal.decreases-edges
decreases-edges g l = bytes_left l.lexer
