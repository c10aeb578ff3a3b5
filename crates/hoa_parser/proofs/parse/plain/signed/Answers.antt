use Rattle.hoa_parser.proofs.plain.Labels.{negated_literal, number_literal}
use Rattle.hoa_parser.proofs.parse.plain.signed.Goals as goal

pub returns-in_ok-place-in-Some : goal.returns-in_ok-place-in-Some
returns-in_ok-place-in-Some c = negated_literal c.in_ok-place-in-Some.place c.args.bytes.now c.in-Some.left.now c.in_ok-place-in-Some.rest.now c.in-Some.ensures c.in_ok-place-in-Some.ensures

pub returns-in_ok-place-in-None : goal.returns-in_ok-place-in-None
returns-in_ok-place-in-None c = number_literal c.in_ok-place-in-None.place c.args.bytes.now c.in_ok-place-in-None.rest.now c.in_ok-place-in-None.ensures
