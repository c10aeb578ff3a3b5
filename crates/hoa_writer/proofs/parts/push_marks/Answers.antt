use Rattle.std.proofs.Common.{◌∙◌, ◌++◌, ap, arith, length, sym}
use Rattle.std.proofs.lemmas.Result.{on_ok_weaker}
use Rattle.std.specs.Fmt.{decimal}
use Rattle.hoa_writer.proofs.text.JoinedTexts.{mark_written, marks_written}
use Rattle.hoa_writer.proofs.parts.push_marks.Goals as goal
use Rattle.label_guards.proofs.labelled.Pieces.{some_item}

pub others-preserved : goal.others-preserved
others-preserved c =
    mark_written c.args.marks.now c.others.place c.at-in-others.result.now c.push_number.new.out c.others.out c.push.new.self c.push_number-in-others.new.out c.others.auto.place
    (omega (arith, c.others-test.true, c.len-place-end.ensures.count)) (c.at-in-others.ensures.item 0) c.others.invariant c.in_ok-push.ensures.ok c.in_ok-push_number-2.ensures

pub returns : goal.returns
returns c =
    on_ok_weaker c.push-2.result
    (λ e. marks_written c.args.marks.now c.others.place c.args.out.now c.extend.new.self c.push_number.new.out c.others.out _
    (some_item (length c.args.marks.now) c.is_empty.result c.if-is_empty.false c.is_empty.ensures) (omega (arith, c.others-test.false, c.len-place-end.ensures.count)) c.in_ok-extend.ensures.ok
    (c.in_ok-push_number.ensures ∙ ap (λ m. c.extend.new.self ++ decimal m) (sym (c.at.ensures.item 0))) c.others.invariant e)
    c.push-2.ensures.ok
