use Rattle.std.proofs.Common.{◌≡◌, ◌+◌, ap, arith}
use Rattle.safra_trees.proofs.flat_step.OrderSteps.{shifted_more, shifted_rest}
use Rattle.safra_trees.specs.Flat.{at}
use Rattle.safra_trees.proofs.order.make_room.Goals as goal

pub names-preserved-then-one-number : goal.names-preserved-then-one-number
names-preserved-then-one-number c =
    let old = c.args.order.now in
    let now = c.names.order in
    let i = c.names.one-index in
    let same : at now i ≡ at old i = c.names.invariant.rest i (omega arith) in
    record {
      done = shifted_more c.args.number i (at now i) old now (omega arith) same (λ low. same) (λ high. absurd (omega (arith, high, same, c.if-one-number.true))) c.names.invariant.done;
      rest = shifted_rest i (at now i) old now c.names.invariant.rest;
    }

pub names-preserved : goal.names-preserved
names-preserved c =
    let old = c.args.order.now in
    let now = c.names.order in
    let i = c.names.one-index in
    let same : at now i ≡ at old i = c.names.invariant.rest i (omega arith) in
    record {
      done = shifted_more c.args.number i (at now i + 1) old now (omega arith) same (λ low. absurd (omega (arith, low, same, c.if-one-number.false)))
          (λ high. ap (λ k. k + 1) same) c.names.invariant.done;
      rest = shifted_rest i (at now i + 1) old now c.names.invariant.rest;
    }
