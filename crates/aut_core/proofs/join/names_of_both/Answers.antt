use Rattle.std.proofs.Common.{◌∙◌, ap, arith, get_or, length}
use Rattle.aut_core.proofs.JoinedNames.{apart_so_far, have_both, joined_all, joined_more, joined_skip}
use Rattle.aut_core.proofs.join.names_of_both.Goals as goal

pub others-preserved-then-has : goal.others-preserved-then-has
others-preserved-then-has c =
    let items = c.as_slice-name-items.ensures.items in
    joined_skip c.args.a.now c.args.b.now c.others.names c.others.name-index c.name-item.result (omega (arith, ap length items, c.others-test.true))
    (c.name-item.is ∙ ap (λ ns. get_or ns c.others.name-index c.name-item.result) items) c.others.invariant c.if-has.ensures

pub push-requires : goal.push-requires
push-requires c =
    let items = c.as_slice-name-items.ensures.items in
    apart_so_far c.args.a.now c.args.b.now c.others.names c.others.name-index c.name-item.result c.in_ok-copy.field-0 c.as_slice-name-items.ensures.distinct
    (omega (arith, ap length items, c.others-test.true)) (c.name-item.is ∙ ap (λ ns. get_or ns c.others.name-index c.name-item.result) items) c.others.invariant c.if-has.ensures
    c.in_ok-copy.ensures

pub others-preserved : goal.others-preserved
others-preserved c =
    let items = c.as_slice-name-items.ensures.items in
    joined_more c.args.a.now c.args.b.now c.others.names c.push.new.self c.others.name-index c.name-item.result c.in_ok-copy.field-0 (omega (arith, ap length items, c.others-test.true))
    (c.name-item.is ∙ ap (λ ns. get_or ns c.others.name-index c.name-item.result) items) c.others.invariant c.if-has.ensures c.in_ok-copy.ensures c.in_ok-push.ensures.ok

pub returns-clause-both : goal.returns-clause-both
returns-clause-both c = have_both c.args.a.now c.args.b.now c.others.names
    (joined_all c.args.a.now c.args.b.now c.others.names c.others.name-index (omega (arith, ap length c.as_slice-name-items.ensures.items, c.others-test.false)) c.others.invariant)
