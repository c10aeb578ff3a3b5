use Rattle.hoa_parser.proofs.reading.Loops.{GoesOn, bytes_left}
use Rattle.hoa_parser.specs.inner.Expecting as part
use Rattle.hoa_parser.specs.inner.Parsing.{reader_state}
use Rattle.hoa_parser.specs.inner.RuleReads.{AddsNumbers}
use Rattle.hoa_parser.proofs.parse.lists.more_numbers.Given as goal

abbrev pub invariant-numbers : goal.invariant-numbers
invariant-numbers g l = GoesOn part.MoreNumbers (AddsNumbers l.fn.numbers l.numbers) (reader_state l.fn.lexer l.fn.ahead (g.I.Inputs.seen l.fn.inputs))
    (reader_state l.lexer l.ahead (g.I.Inputs.seen l.inputs))

abbrev pub decreases-numbers : goal.decreases-numbers
decreases-numbers g l = bytes_left l.lexer
