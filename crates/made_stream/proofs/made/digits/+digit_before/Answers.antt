use Rattle.std.proofs.Common.{◌≡◌, ◌-◌, length, ◌∙◌, arith}
use Rattle.std.specs.Fmt.{decimal}
use Rattle.made_stream.proofs.DecimalDigits.{decimal-last, decimal-other}
use Rattle.made_stream.proofs.made.digits.+digit_before.Goals as goal

pub digit_before-requires : goal.digit_before-requires
digit_before-requires t c =
    (omega arith, (decimal-other c.args.number c.args.others (omega arith) (omega arith) c.requires).0)

pub returns-then-others-eq0 : goal.returns-then-others-eq0
returns-then-others-eq0 t c =
    let last : length (decimal c.args.number) - 1 - c.args.others ≡ length (decimal c.args.number) - 1 = omega arith in
    rw last (decimal-last c.args.number (omega arith))

pub returns-else-others-eq0 : goal.returns-else-others-eq0
returns-else-others-eq0 t c =
    (decimal-other c.args.number c.args.others (omega arith) (omega arith) c.requires).1 ∙ c.digit_before.ensures
