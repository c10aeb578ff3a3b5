use Rattle.std.proofs.Common.{◌≡◌, ap}
use Rattle.std.specs.Prelude.{is_some, true}
use Rattle.plan_meaning.proofs.OperandsAt.{sized_at}
use Rattle.plan_meaning.proofs.operands.operand_at.Goals as goal

pub returns-in-Some-clause-sized : goal.returns-in-Some-clause-sized
returns-in-Some-clause-sized c =
    let ops = c.args.operands.now in
    let there : is_some c.args.name.now ≡ true = ap is_some c.in-Some.is in
    sized_at ops c.args.place c.at.result.now (c.requires.within there) c.requires.sized (c.at.ensures.item c.at.result.now)
