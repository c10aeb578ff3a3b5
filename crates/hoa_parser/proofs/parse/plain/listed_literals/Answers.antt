use Rattle.std.proofs.Common.{arith}
use Rattle.hoa_parser.specs.Raw.{raw_tree}
use Rattle.hoa_parser.proofs.plain.Labels.{literal_length, literals_pair, literals_push}
use Rattle.hoa_parser.proofs.plain.Signs.{sign_length}
use Rattle.hoa_parser.proofs.parse.plain.listed_literals.Goals as goal

pub literals-init : goal.literals-init
literals-init c = literals_pair (raw_tree c.args.first) _ _ _ _ c.pair-parts.ensures c.in_ok-second.ensures

pub literals-smaller : goal.literals-smaller
literals-smaller c = omega (arith, sign_length _ _ _ c.in-Some.ensures, literal_length _ _ _ c.in_ok-next-in-Some.ensures)

pub literals-preserved : goal.literals-preserved
literals-preserved c = literals_push (raw_tree c.args.first) _ _ _ _ _ _ _ c.in-Ok.ensures.ok c.literals.invariant c.in-Some.ensures c.in_ok-next-in-Some.ensures
