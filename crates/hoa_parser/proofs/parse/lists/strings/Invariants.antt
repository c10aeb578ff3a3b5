use Rattle.hoa_parser.proofs.reading.Loops.{GoesOn, bytes_left}
use Rattle.hoa_parser.specs.inner.Expecting as part
use Rattle.hoa_parser.specs.inner.Parsing.{reader_state}
use Rattle.hoa_parser.specs.inner.RuleReads.{AreTexts}
use Rattle.hoa_parser.proofs.parse.lists.strings.Given as goal

abbrev pub invariant-texts : goal.invariant-texts
invariant-texts g l = GoesOn part.Strings (AreTexts l.texts) (reader_state l.fn.lexer l.fn.ahead (g.I.Inputs.seen l.fn.inputs)) (reader_state l.lexer l.ahead (g.I.Inputs.seen l.inputs))

abbrev pub decreases-texts : goal.decreases-texts
decreases-texts g l = bytes_left l.lexer
