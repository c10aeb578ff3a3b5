use Rattle.std.proofs.Common.{◌∙◌, ap, arith, get_or, length, sym}
use Rattle.ap_project.proofs.OtherNames.{apart_so_far, fewer_so_far, left_out, taken_on}
use Rattle.ap_project.proofs.removal.other_names.Goals as goal

pub names-preserved-then-eq : goal.names-preserved-then-eq
names-preserved-then-eq c =
    let items = c.as_slice-other-items.ensures.items in
    left_out c.args.name.now c.args.names.now c.names.others c.names.other-index c.other-item.result (omega (arith, ap length items, c.names-test.true))
    (c.other-item.is ∙ ap (λ ns. get_or ns c.names.other-index c.other-item.result) items) c.names.invariant (sym c.eq.ensures ∙ c.if-eq.true)

pub push-requires : goal.push-requires
push-requires c =
    let items = c.as_slice-other-items.ensures.items in
    apart_so_far c.args.name.now c.args.names.now c.names.others c.names.other-index c.other-item.result c.in_ok-copy.field-0 c.as_slice-other-items.ensures.distinct
    (omega (arith, ap length items, c.names-test.true)) (c.other-item.is ∙ ap (λ ns. get_or ns c.names.other-index c.other-item.result) items) c.names.invariant c.in_ok-copy.ensures

pub names-preserved : goal.names-preserved
names-preserved c =
    let items = c.as_slice-other-items.ensures.items in
    taken_on c.args.name.now c.args.names.now c.names.others c.push.new.self c.names.other-index c.other-item.result c.in_ok-copy.field-0
    (omega (arith, ap length items, c.names-test.true)) (c.other-item.is ∙ ap (λ ns. get_or ns c.names.other-index c.other-item.result) items) c.names.invariant
    (sym c.eq.ensures ∙ c.if-eq.false) c.in_ok-copy.ensures c.in_ok-push.ensures.ok

pub returns-clause-fewer : goal.returns-clause-fewer
returns-clause-fewer c =
    fewer_so_far c.args.name.now c.args.names.now c.names.others c.names.other-index c.names.invariant
