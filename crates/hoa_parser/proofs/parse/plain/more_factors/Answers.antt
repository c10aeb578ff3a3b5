use Rattle.std.proofs.Common.{arith}
use Rattle.hoa_parser.specs.Raw.{raw_tree}
use Rattle.hoa_parser.proofs.plain.Labels.{factor_length, factors_pair, factors_push}
use Rattle.hoa_parser.proofs.plain.Signs.{sign_length}
use Rattle.hoa_parser.proofs.parse.plain.more_factors.Goals as goal

pub factors-init : goal.factors-init
factors-init c = factors_pair (raw_tree c.args.first) _ _ _ _ c.pair-parts.ensures c.in_ok-second.ensures

pub factors-smaller : goal.factors-smaller
factors-smaller c = omega (arith, sign_length _ _ _ c.in-Some.ensures, factor_length _ _ _ c.in_ok-next-in-Some.ensures)

pub factors-preserved : goal.factors-preserved
factors-preserved c = factors_push (raw_tree c.args.first) _ _ _ _ _ _ _ c.in-Ok.ensures.ok c.factors.invariant c.in-Some.ensures c.in_ok-next-in-Some.ensures
