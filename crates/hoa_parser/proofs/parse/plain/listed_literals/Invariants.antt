use Rattle.std.proofs.Common.{length}
use Rattle.hoa_parser.specs.Raw.{raw_tree}
use Rattle.hoa_parser.specs.inner.AtHand.{AreLiterals}
use Rattle.hoa_parser.proofs.plain.Labels.{Parted}
use Rattle.hoa_parser.proofs.parse.plain.listed_literals.Given as goal

abbrev pub invariant-literals : goal.invariant-literals
invariant-literals l = Parted AreLiterals (raw_tree l.fn.first) l.parts l.bytes l.left

abbrev pub decreases-literals : goal.decreases-literals
decreases-literals l = length l.left
