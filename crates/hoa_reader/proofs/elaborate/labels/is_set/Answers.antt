use Rattle.std.proofs.Common.{◌≡◌, ◌<◌, ◌≤◌, ◌/◌, ◌%◌, ◌==◌, ◌^◌, arith, sym, ap}
use Rattle.std.proofs.Math.Nat.{div-eq_of_lt}
use Rattle.std.proofs.Math.Pow.{pow_mono}
use Rattle.hoa_reader.proofs.elaborate.labels.is_set.Goals as goal

pub returns-then-place-ge64 : goal.returns-then-place-ge64
returns-then-place-ge64 c =
    let large : 2 ^ 64 ≤ 2 ^ c.args.place = pow_mono c.if-place-ge64.true in
    let small : c.args.number < 2 ^ c.args.place = omega (arith, c.ranges.number, large) in
    let none : c.args.number / 2 ^ c.args.place ≡ 0 = div-eq_of_lt small in
    sym (ap (λ q. q % 2 == 1) none)
