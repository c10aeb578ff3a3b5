use Rattle.std.proofs.Common.{arith, ◌<◌, ◌^◌, ◌≤◌}
use Rattle.std.proofs.lemmas.Bool.Decides.{nat_tests}
use Rattle.std.proofs.Math.Pow.{pow_mono}
use Rattle.hoa_reader.proofs.elaborate.rules.is_power.Goals as goal

pub returns-then-exponent-ge64 : goal.returns-then-exponent-ge64
returns-then-exponent-ge64 c =
    let large : 2 ^ 64 ≤ 2 ^ c.args.exponent = pow_mono c.if-exponent-ge64.true in
    let small : c.args.number < 2 ^ 64 = omega (arith, c.ranges.number) in
    grind (arith, nat_tests)
