use Rattle.std.proofs.Common.{◌-◌, ◌∙◌, [], get_or, sym, ap, arith}
use Rattle.std.proofs.lemmas.List.{length-append}
use Rattle.autfilt_run.proofs.turns.Files.{stream_behind, streams_are}
use Rattle.autfilt_run.specs.Plans.{plan_streams}
use Rattle.filter_plan.specs.Words.{operands}
use Rattle.autfilt_run.proofs.streams.file_name.Goals as goal

pub overflow_cast-place-in-None : goal.overflow_cast-place-in-None
overflow_cast-place-in-None c =
    let plan = c.args.plan.now in
    omega (arith, c.requires, length-append (operands plan) (plan_streams plan), c.operand_count-operands.ensures.number, c.stream_count-streams.ensures, c.stream_count-streams.type_inv)

pub returns-in-None : goal.returns-in-None
returns-in-None c =
    let plan = c.args.plan.now in
    let n = c.operand_count-operands.result in
    c.as_bytes-in-None.ensures ∙ sym (c.at.ensures.item []) ∙ ap (λ xs. get_or xs (c.args.place - n) []) (sym (streams_are plan c.in-None.is))
    ∙ sym (stream_behind (operands plan) (plan_streams plan) c.args.place n c.operand_count-operands.ensures.number c.if-place-operands.false)
