use Rattle.hoa_parser.proofs.reading.Loops.{GoesOn, bytes_left}
use Rattle.hoa_parser.specs.inner.Expecting as part
use Rattle.hoa_parser.specs.inner.Parsing.{reader_state}
use Rattle.hoa_parser.specs.inner.RuleReads.{AreWords}
use Rattle.hoa_parser.proofs.parse.lists.words.Given as goal

abbrev pub invariant-words : goal.invariant-words
invariant-words g l = GoesOn part.Words (AreWords l.words) (reader_state l.fn.lexer l.fn.ahead (g.I.Inputs.seen l.fn.inputs)) (reader_state l.lexer l.ahead (g.I.Inputs.seen l.inputs))

abbrev pub decreases-words : goal.decreases-words
decreases-words g l = bytes_left l.lexer
