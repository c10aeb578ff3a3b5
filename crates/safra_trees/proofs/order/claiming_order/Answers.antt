use Rattle.std.proofs.Common.{◌≡◌, ◌<◌, ◌∙◌, ◌∷◌, ◌++◌, [], ap, arith, drop, length, subst, sym, take, vec_len}
use Rattle.std.proofs.lemmas.List.{length-append}
use Rattle.safra_trees.specs.inner.Order.{IsShifted}
use Rattle.safra_trees.proofs.flat_step.OrderSteps.{order_more, take_front}
use Rattle.safra_trees.proofs.flat_step.ClaimSteps.{at_read}
use Rattle.safra_trees.specs.Flat.{at}
use Rattle.safra_trees.proofs.order.claiming_order.Goals as goal
use Rattle.safra_trees.proofs.order.claiming_order.Goals.{then-len-eq0, else-len-eq0}

pub names-preserved : goal.names-preserved
names-preserved c =
    let order = c.names.order.items in
    let k = c.names.parent-index in
    let shifted = c.make_room.new.order in
    let number = c.if-len-eq0.number in
    let size : length shifted ≡ length order = c.make_room.auto.order ∙ ap length c.deref_mut.ensures.value in
    let ok : vec_len c.names.order ≡ length order = omega (arith, c.names.order.ok) in
    let front : take (vec_len c.names.order) (shifted ++ drop (length shifted) order) ≡ shifted = take_front (vec_len c.names.order) shifted (drop (length shifted) order)
    (omega (arith, size, ok)) in
    let pushed : c.push.new.self.items ≡ shifted ++ number ∷ [] = c.in_ok-push.ensures.items ∙ ap (λ xs. xs ++ number ∷ []) front in
    let read : c.len.result ≡ k = omega (arith, c.len.ensures, ok, c.names.invariant.size) in
    let low : 0 < k → at c.args.parents.now k < k = λ some. c.requires.lower k some c.names-test.true in
    record {
      size = omega (arith, ap length pushed, length-append shifted (number ∷ []), size, c.names.invariant.size);
      order = order_more k number (at c.args.parents.now) order shifted c.push.new.self.items
          (λ y more less. c.requires.lower y more (omega (arith, less, c.names-test.true))) c.names.invariant.order (size ∙ c.names.invariant.size)
          (λ z less. subst (λ xs. IsShifted number (at xs) (at shifted) z) c.deref_mut.ensures.value
          (c.make_room.ensures z (omega (arith, less, c.names.invariant.size, ap length c.deref_mut.ensures.value)))) pushed
          (elim c.if-len-eq0.branch [
            | then-len-eq0 w ↦ record { first = λ none. w.number-is; later = λ some. absurd (omega (arith, w.if-len-eq0.true, read, some)) }
            | else-len-eq0 w ↦ record {
              first = λ none. absurd (w.if-len-eq0.false (read ∙ none));
              later = λ some. w.number-is ∙ sym (at_read order (at c.args.parents.now k) w.index.result.now (omega (arith, low some, c.names.invariant.size)) w.index.ensures);
            }
          ]);
    }
