use Rattle.hoa_parser.proofs.reading.Loops.{GoesOn, bytes_left}
use Rattle.hoa_parser.specs.inner.Expecting as part
use Rattle.hoa_parser.specs.inner.Parsing.{reader_state}
use Rattle.hoa_parser.specs.inner.RuleReads.{AreItems}
use Rattle.hoa_parser.proofs.parse.item.items.Given as goal

abbrev pub invariant-items : goal.invariant-items
invariant-items g l = GoesOn part.Items (AreItems l.items) (reader_state l.fn.lexer l.fn.ahead (g.I.Inputs.seen l.fn.inputs)) (reader_state l.lexer l.ahead (g.I.Inputs.seen l.inputs))

abbrev pub decreases-items : goal.decreases-items
decreases-items g l = bytes_left l.lexer
