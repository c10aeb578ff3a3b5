use Rattle.aut_base.specs.declared.limit.TheConstants.{MOST_DEPTH}
use Rattle.hoa_parser.proofs.reading.Loops.{GoesOn, bytes_left}
use Rattle.hoa_parser.specs.inner.Expecting as part
use Rattle.hoa_parser.specs.inner.Parsing.{reader_state}
use Rattle.hoa_parser.proofs.reading.RuleParts.{ListSo}
use Rattle.hoa_parser.specs.Phrases.{StateWithin, state_meaning, state_tokens}
use Rattle.hoa_parser.specs.Raw.{written_state}
use Rattle.hoa_parser.proofs.parse.body.states.Given as goal

abbrev pub invariant-states : goal.invariant-states
invariant-states g l =
    GoesOn part.States (ListSo (StateWithin MOST_DEPTH) state_tokens state_meaning written_state l.states)
    (reader_state l.fn.lexer l.fn.ahead (g.I.Inputs.seen l.fn.inputs)) (reader_state l.lexer l.ahead (g.I.Inputs.seen l.inputs))

abbrev pub decreases-states : goal.decreases-states
decreases-states g l = bytes_left l.lexer
