use Rattle.std.proofs.Common.{◌≡◌, arith, length}
use Rattle.std.proofs.lemmas.Bool.Decides.{nat_tests}
use Rattle.filter_plan.proofs.FormatTexts.{format_more, no_format, step_of_format}
use Rattle.filter_plan.proofs.format.StatsTextOptionValue.read.Goals as goal

pub returns-in_default-clause-usage : goal.returns-in_default-clause-usage
returns-in_default-clause-usage c _ whole is =
    let left = c.pieces.invariant.left whole is in
    let some : length c.pieces.rest.now ≡ 0 → ⊥ = λ empty. grind (arith, nat_tests) in
    no_format c.pieces.rest.now c.in_default.ensures.first some left.0 left.1

pub pieces-preserved : goal.pieces-preserved
pieces-preserved c = record {
  so_far = format_more c.args.text.now c.pieces.rest.now c.in-Some.after.now c.pieces.pieces c.push.new.self c.in-Some.piece c.pieces.invariant.so_far c.in-Some.ensures.written
      c.in_ok-push.ensures.ok;
  left = λ whole is. let left = c.pieces.invariant.left whole is in
      step_of_format c.pieces.rest.now c.in-Some.after.now c.in-Some.piece c.in-Some.ensures.first left.0 left.1;
}
