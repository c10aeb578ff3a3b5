use Rattle.std.proofs.Common.{◌∙◌, ap, filter, length, map, nat_lt, refl, sym}
use Rattle.std.proofs.lemmas.Bool.{le-ltb, lt-ltb}
use Rattle.safra_trees.proofs.flat_step.Loops.{mapped_names, names_without}
use Rattle.safra_trees.proofs.flat_step.Splits.{filtered_names}
use Rattle.safra_trees.specs.Flat.{at, is_high, is_low}
use Rattle.safra_trees.proofs.passes.new_places.Goals as goal

pub states-preserved-then-claim-owners : goal.states-preserved-then-claim-owners
states-preserved-then-claim-owners c =
    let claims = c.args.claims.now in
    let owners = c.args.owners.now in
    let same = names_without (λ s. nat_lt (at claims s) (length owners)) c.states.state (le-ltb (at claims c.states.state) (length owners) c.if-claim-owners.true) in
    record {
      low = c.states.invariant.low ∙ ap (filter (is_low c.args.narrow)) (sym same);
      rest = c.states.invariant.rest ∙ ap (filter (is_high c.args.narrow)) (sym same);
      places = c.states.invariant.places ∙ ap (map (λ s. at c.args.ranks.now (at owners (at claims s)))) (sym same);
    }

pub states-preserved : goal.states-preserved
states-preserved c =
    let claims = c.args.claims.now in
    let owners = c.args.owners.now in
    let here = lt-ltb (at claims c.states.state) (length owners) c.if-claim-owners.false in
    record {
      low = filtered_names (is_low c.args.narrow) (λ s. nat_lt (at claims s) (length owners)) c.states.state c.states.low.items c.list_state.new.low.items here c.states.invariant.low
          c.in_ok-list_state.ensures.low;
      rest = filtered_names (is_high c.args.narrow) (λ s. nat_lt (at claims s) (length owners)) c.states.state c.states.rest.items c.list_state.new.rest.items here c.states.invariant.rest
          c.in_ok-list_state.ensures.rest;
      places = mapped_names (λ s. at c.args.ranks.now (at owners (at claims s))) (λ s. nat_lt (at claims s) (length owners)) c.states.state c.states.places.items c.push.new.self.items _
          here c.states.invariant.places refl c.in_ok-push.ensures.items;
    }
