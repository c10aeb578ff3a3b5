use Rattle.std.proofs.Common.{length}
use Rattle.hoa_parser.specs.Raw.{raw_tree}
use Rattle.hoa_parser.specs.inner.AtHand.{AreFactors}
use Rattle.hoa_parser.proofs.plain.Labels.{Parted}
use Rattle.hoa_parser.proofs.parse.plain.more_factors.Given as goal

abbrev pub invariant-factors : goal.invariant-factors
invariant-factors l = Parted AreFactors (raw_tree l.fn.first) l.parts l.bytes l.left

abbrev pub decreases-factors : goal.decreases-factors
decreases-factors l = length l.left
