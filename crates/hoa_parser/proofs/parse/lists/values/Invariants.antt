use Rattle.hoa_parser.proofs.reading.Loops.{GoesOn, bytes_left}
use Rattle.hoa_parser.specs.inner.Parsing.{reader_state}
use Rattle.hoa_parser.specs.inner.RuleReads.{AreValues, values_part}
use Rattle.hoa_parser.proofs.parse.lists.values.Given as goal

abbrev pub invariant-values : goal.invariant-values
invariant-values g l = GoesOn (values_part l.fn.texts) (AreValues l.fn.texts tt) (reader_state l.fn.lexer l.fn.ahead (g.I.Inputs.seen l.fn.inputs))
    (reader_state l.lexer l.ahead (g.I.Inputs.seen l.inputs))

abbrev pub decreases-values : goal.decreases-values
decreases-values g l = bytes_left l.lexer
