use Rattle.std.proofs.Common.{length, map}
use Rattle.hoa_lexer.specs.declared.token.Token.TheVariants as token
use Rattle.hoa_parser.specs.inner.AtHand.{Spelled}
use Rattle.hoa_parser.proofs.parse.plain.marks.Given as goal

abbrev pub invariant-marks : goal.invariant-marks
invariant-marks l = Spelled l.bytes (map token.Int l.marks) l.left

abbrev pub decreases-marks : goal.decreases-marks
decreases-marks l = length l.left
