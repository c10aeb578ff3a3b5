use Rattle.std.proofs.Common.{◌≡◌, ◌∙◌, ◌+◌, ◌<◌, ◌≤◌, ap, arith, false, get_or, length, refl, sym}
use Rattle.std.proofs.lemmas.List.{length-set}
use Rattle.safra_trees.proofs.flat_step.ClaimSteps.{at_read, claimant_low, claims_more, first_of_low, set_low}
use Rattle.safra_trees.specs.Flat.{at}
use Rattle.safra_trees.specs.declared.moves.Move.{Move}
use Rattle.safra_trees.specs.inner.Claims.{claimant, first_of}
use Rattle.safra_trees.proofs.claims.claims.Goals as goal

pub moves-preserved : goal.moves-preserved
moves-preserved c =
    let order = c.args.order.now in
    let places = c.args.places.now in
    let claims = c.moves.claims.items in
    let d : Move = record { from = 0; to = 0; accepting = false } in
    let e : Move = get_or c.args.moves.now c.moves.one-index d in
    let m = length order in
    let ends = c.requires.moves c.moves.one-index d c.moves-test.true in
    let goal_in : e.to < length claims = omega (arith, ends.to, c.moves.invariant.size) in
    let old : at claims e.to ≡ c.index.result.now = at_read claims e.to c.index.result.now goal_in c.index.ensures in
    let v = c.first_of.result in
    let new : v ≡ first_of order (at claims e.to) (claimant m (at places e.from) e) =
    c.first_of.ensures ∙ (ap (λ x. first_of order x c.claimant.result) (sym old) ∙ ap (first_of order (at claims e.to)) c.claimant.ensures) in
    let low : at claims e.to ≤ m + m = c.moves.invariant.below e.to 0 goal_in in
    record {
      size = length-set claims e.to v ∙ c.moves.invariant.size;
      below = set_low claims e.to v (m + m) c.moves.invariant.below
          (omega (arith, new, first_of_low order (at claims e.to) (claimant m (at places e.from) e) (m + m) low (claimant_low m (at places e.from) e c.if-place-nodes.false)));
      claims = λ s within. claims_more order claims (at places) c.args.moves.now c.moves.one-index s v e d c.moves-test.true refl goal_in c.if-place-nodes.false new
          ∙ c.moves.invariant.claims s within;
    }
