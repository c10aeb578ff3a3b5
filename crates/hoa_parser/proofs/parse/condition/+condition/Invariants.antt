use Rattle.std.proofs.Common.{◌+◌, ◌-◌, ◌*◌}
use Rattle.aut_base.specs.declared.limit.TheConstants.{MOST_DEPTH}
use Rattle.hoa_parser.proofs.reading.Loops.{GoesOn, bytes_left}
use Rattle.hoa_parser.specs.inner.Chains.{AddsFands, AddsFatoms}
use Rattle.hoa_parser.specs.inner.Expecting.{Atoms, Conjunctions}
use Rattle.hoa_parser.specs.inner.Parsing.{reader_state}
use Rattle.aut_base.specs.Formula.{formula_tree}
use Rattle.hoa_parser.proofs.parse.condition.+condition.Given as goal

abbrev pub decreases-and_fatom : goal.decreases-and_fatom
decreases-and_fatom g l = 8 * (MOST_DEPTH - l.depth) + 3

abbrev pub decreases-and_fatoms : goal.decreases-and_fatoms
decreases-and_fatoms g l = 8 * (MOST_DEPTH - l.depth) + 4

abbrev pub decreases-group : goal.decreases-group
decreases-group g l = 8 * (MOST_DEPTH - l.depth) + 1

abbrev pub decreases-condition : goal.decreases-condition
decreases-condition g l = 8 * (MOST_DEPTH - l.depth) + 8

abbrev pub decreases-fand : goal.decreases-fand
decreases-fand g l = 8 * (MOST_DEPTH - l.depth) + 5

abbrev pub decreases-fatom : goal.decreases-fatom
decreases-fatom g l = 8 * (MOST_DEPTH - l.depth) + 2

abbrev pub decreases-or_fand : goal.decreases-or_fand
decreases-or_fand g l = 8 * (MOST_DEPTH - l.depth) + 6

abbrev pub decreases-or_fands : goal.decreases-or_fands
decreases-or_fands g l = 8 * (MOST_DEPTH - l.depth) + 7

abbrev pub invariant-and_fatoms-fatoms : goal.invariant-and_fatoms-fatoms
invariant-and_fatoms-fatoms g l =
    GoesOn (Atoms l.fn.depth) (AddsFatoms l.fn.depth (formula_tree l.fn.first) l.parts) (reader_state l.fn.lexer l.fn.ahead (g.I.Inputs.seen l.fn.inputs))
    (reader_state l.lexer l.ahead (g.I.Inputs.seen l.inputs))

abbrev pub decreases-and_fatoms-fatoms : goal.decreases-and_fatoms-fatoms
decreases-and_fatoms-fatoms g l = bytes_left l.lexer

abbrev pub invariant-or_fands-fands : goal.invariant-or_fands-fands
invariant-or_fands-fands g l =
    GoesOn (Conjunctions l.fn.depth) (AddsFands l.fn.depth (formula_tree l.fn.first) l.parts)
    (reader_state l.fn.lexer l.fn.ahead (g.I.Inputs.seen l.fn.inputs)) (reader_state l.lexer l.ahead (g.I.Inputs.seen l.inputs))

abbrev pub decreases-or_fands-fands : goal.decreases-or_fands-fands
decreases-or_fands-fands g l = bytes_left l.lexer
