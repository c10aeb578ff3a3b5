use Rattle.std.proofs.Common.{◌∙◌, ◌+◌, ◌<◌, All, Bool, List, ap, arith, length, subst, sym, ℕ}
use Rattle.std.specs.List.{list_any}
use Rattle.aut_base.specs.declared.limit.TheConstants.{MOST_NODES}
use Rattle.safra_trees.proofs.flat_step.Survey.{IsSurvey, all_below, surveyed}
use Rattle.safra_trees.specs.Flat.{at}
use Rattle.safra_trees.specs.inner.Names.{has}
use Rattle.safra_trees.specs.inner.Claims.{claim, grown_parent}
use Rattle.safra_trees.specs.inner.Passes.{AreOwners, ends_at}
use Rattle.safra_trees.specs.inner.Slices.{states_in}
use Rattle.safra_trees.proofs.stepping.passes.Goals as goal

pub claims-requires-clause-order : goal.claims-requires-clause-order
claims-requires-clause-order c =
    let order = c.in_ok-order.order.items in
    subst (λ xs. All (λ x. x < MOST_NODES) xs) (sym c.deref.ensures.value)
    (all_below order MOST_NODES (λ k less. omega (arith, c.in_ok-order.ensures.order.below k (omega (arith, less, c.in_ok-order.ensures.size)), c.requires.stored.few)))

pub surviving-requires-clause-low : goal.surviving-requires-clause-low
surviving-requires-clause-low c =
    let owners = c.in_ok-owners.owners.items in
    subst (λ xs. All (λ x. x < length xs) xs) (sym c.deref-5.ensures.value)
    (all_below owners (length owners) (λ k less. omega (arith, less, c.in_ok-owners.ensures.low k (omega (arith, less, c.in_ok-owners.ensures.size)))))

pub returns : goal.returns
returns c =
    let tree = c.args.tree.now in
    let n = c.args.states in
    let ms = c.args.moves.now in
    let p = tree.parents.now in
    let s = states_in tree in
    let o = tree.places.now in
    let order = c.in_ok-order.order.items in
    let found = c.in_ok-places.places.items in
    let claims = c.in_ok-claims.claims.items in
    let own = c.in_ok-own.own.items in
    let owners = c.in_ok-owners.owners.items in
    let stay = c.in_ok-stay.stay.items in
    let survey : IsSurvey n ms p s o order found claims own owners stay = record {
      order_size = c.in_ok-order.ensures.size;
      ordered = c.in_ok-order.ensures.order;
      found_size = c.in_ok-places.ensures.size;
      found_places = c.in_ok-places.ensures.places;
      claims_size = c.in_ok-claims.ensures.size ∙ ap length c.deref-2.ensures.value;
      claimed = λ t less. c.in_ok-claims.ensures.claims t (omega (arith, less, ap length c.deref-2.ensures.value))
          ∙ (ap (λ xs. claim xs (at c.deref-2.result.now) t ms (length xs + length xs)) c.deref.ensures.value ∙ ap
          (λ (ys : List ℕ). claim order (at ys) t ms (length order + length order)) c.deref-2.ensures.value);
      own_size = c.in_ok-own.ensures.size;
      own_claims = λ y less. c.in_ok-own.ensures.own y less ∙ ap (λ xs. has xs y) c.deref-3.ensures.value;
      homes_size = c.in_ok-owners.ensures.size ∙ ap length c.deref-4.ensures.value;
      low = λ x less. c.in_ok-owners.ensures.low x (omega (arith, less, ap length c.deref-4.ensures.value));
      are_homes = subst (λ (b : List Bool). AreOwners b (grown_parent p) (length b) owners) c.deref-4.ensures.value c.in_ok-owners.ensures.owners;
      stay_size = c.in_ok-stay.ensures.size ∙ ap length c.deref-5.ensures.value;
      stays = λ y less. c.in_ok-stay.ensures.stay y (omega (arith, less, ap length c.deref-5.ensures.value))
          ∙ (ap (λ xs. list_any (ends_at xs y) c.deref-6.result.now) c.deref-5.ensures.value ∙ ap (λ (ys : List ℕ). list_any (ends_at owners y) ys) c.deref-6.ensures.value);
    } in
    surveyed n ms p s o order found claims own owners stay c.requires.stored c.requires.moves survey
