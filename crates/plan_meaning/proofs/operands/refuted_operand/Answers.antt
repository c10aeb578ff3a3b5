use Rattle.std.proofs.Common.{◌<◌, ap, length, subst, sym}
use Rattle.filter_plan.specs.Table.{refuted}
use Rattle.plan_meaning.proofs.OperandsAt.{refuted_within, sized_at}
use Rattle.plan_meaning.proofs.operands.refuted_operand.Goals as goal

pub returns-in-Refute-clause-sized : goal.returns-in-Refute-clause-sized
returns-in-Refute-clause-sized c =
    let ops = c.args.operands.now in
    let within = refuted_within c.args.plan.now c.in-Refute.field-0 ops c.requires.number (ap refuted c.in-Refute.is) in
    sized_at ops c.place_of_refuted.result c.at.result.now (subst (λ place. place < length ops) (sym c.place_of_refuted.ensures.is) within) c.requires.sized (c.at.ensures.item c.at.result.now)
