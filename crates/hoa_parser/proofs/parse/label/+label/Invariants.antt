use Rattle.std.proofs.Common.{◌+◌, ◌-◌, ◌*◌}
use Rattle.aut_base.specs.declared.limit.TheConstants.{MOST_DEPTH}
use Rattle.hoa_parser.proofs.reading.Loops.{GoesOn, bytes_left}
use Rattle.hoa_parser.specs.inner.Chains.{AddsLands, AddsLnots}
use Rattle.hoa_parser.specs.inner.Expecting.{Factors, Products}
use Rattle.hoa_parser.specs.inner.Parsing.{reader_state}
use Rattle.hoa_parser.specs.Raw.{raw_tree}
use Rattle.hoa_parser.proofs.parse.label.+label.Given as goal

abbrev pub decreases-and_lnot : goal.decreases-and_lnot
decreases-and_lnot g l = 10 * (MOST_DEPTH - l.depth) + 3

abbrev pub decreases-more_lnots : goal.decreases-more_lnots
decreases-more_lnots g l = 10 * (MOST_DEPTH - l.depth) + 4

abbrev pub decreases-and_lnots : goal.decreases-and_lnots
decreases-and_lnots g l = 10 * (MOST_DEPTH - l.depth) + 5

abbrev pub decreases-group : goal.decreases-group
decreases-group g l = 10 * (MOST_DEPTH - l.depth) + 1

abbrev pub decreases-label : goal.decreases-label
decreases-label g l = 10 * (MOST_DEPTH - l.depth) + 10

abbrev pub decreases-land : goal.decreases-land
decreases-land g l = 10 * (MOST_DEPTH - l.depth) + 6

abbrev pub decreases-lnot : goal.decreases-lnot
decreases-lnot g l = 10 * (MOST_DEPTH - l.depth) + 2

abbrev pub decreases-negation : goal.decreases-negation
decreases-negation g l = 10 * (MOST_DEPTH - l.depth) + 1

abbrev pub decreases-or_land : goal.decreases-or_land
decreases-or_land g l = 10 * (MOST_DEPTH - l.depth) + 7

abbrev pub decreases-more_lands : goal.decreases-more_lands
decreases-more_lands g l = 10 * (MOST_DEPTH - l.depth) + 8

abbrev pub decreases-or_lands : goal.decreases-or_lands
decreases-or_lands g l = 10 * (MOST_DEPTH - l.depth) + 9

abbrev pub invariant-more_lnots-lnots : goal.invariant-more_lnots-lnots
invariant-more_lnots-lnots g l =
    GoesOn (Factors l.fn.depth) (AddsLnots l.fn.depth (raw_tree l.fn.first) l.parts) (reader_state l.fn.lexer l.fn.ahead (g.I.Inputs.seen l.fn.inputs))
    (reader_state l.lexer l.ahead (g.I.Inputs.seen l.inputs))

abbrev pub decreases-more_lnots-lnots : goal.decreases-more_lnots-lnots
decreases-more_lnots-lnots g l = bytes_left l.lexer

abbrev pub invariant-more_lands-lands : goal.invariant-more_lands-lands
invariant-more_lands-lands g l =
    GoesOn (Products l.fn.depth) (AddsLands l.fn.depth (raw_tree l.fn.first) l.parts) (reader_state l.fn.lexer l.fn.ahead (g.I.Inputs.seen l.fn.inputs))
    (reader_state l.lexer l.ahead (g.I.Inputs.seen l.inputs))

abbrev pub decreases-more_lands-lands : goal.decreases-more_lands-lands
decreases-more_lands-lands g l = bytes_left l.lexer
