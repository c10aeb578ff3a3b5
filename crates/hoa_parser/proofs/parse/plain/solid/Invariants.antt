use Rattle.std.proofs.Common.{length}
use Rattle.hoa_lexer.specs.inner.Steps.{PassesBlanks}
use Rattle.hoa_parser.proofs.parse.plain.solid.Given as goal

abbrev pub invariant-blanks : goal.invariant-blanks
invariant-blanks l = PassesBlanks l.bytes l.left

abbrev pub decreases-blanks : goal.decreases-blanks
decreases-blanks l = length l.left
