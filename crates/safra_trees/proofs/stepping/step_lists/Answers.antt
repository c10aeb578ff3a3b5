use Rattle.std.proofs.Common.{◌≡◌, ◌∙◌, ◌+◌, ◌++◌, Bool, List, Option, ap, arith, filter, length, nat_lt, not, refl, subst, sym, ℕ, ◌&&◌}
use Rattle.std.proofs.lemmas.List.{length-map}
use Rattle.std.proofs.lemmas.List.FromFn.{length-range_with_len}
use Rattle.std.specs.List.{range_with_len}
use Rattle.safra_trees.proofs.flat_step.Finish.{IsFinish, claims_length, finish_of, finished_below, finished_count, finished_green}
use Rattle.safra_trees.proofs.flat_step.Finish.{finished_red, finished_stored, finished_tree, homes_sized, own_sized, stay_sized}
use Rattle.safra_trees.proofs.flat_step.Placed.{nodes_length}
use Rattle.safra_trees.proofs.flat_step.Splits.{names_of_split, names_split}
use Rattle.safra_trees.specs.Events.{least}
use Rattle.safra_trees.specs.Flat.{at}
use Rattle.safra_trees.specs.Step.{greens, grown, reds}
use Rattle.safra_trees.specs.inner.Names.{rank}
use Rattle.safra_trees.specs.declared.event.Event.{Event}
use Rattle.safra_trees.specs.inner.Passes.{ArePasses, flag}
use Rattle.safra_trees.specs.inner.Slices.{sliced_tree, states_in}
use Rattle.safra_trees.proofs.stepping.step_lists.Goals.{After-from_vec-4, In_ok-found, In_ok-names}
use Rattle.safra_trees.proofs.stepping.step_lists.Goals as goal

-- what the passes over the names and places gave
passes : (c : In_ok-found) → ArePasses (grown c.args.states c.args.moves.now (sliced_tree c.args.tree.now)) c.in_ok-found.found.claims.items c.in_ok-found.found.own.items
    c.in_ok-found.found.owners.items c.in_ok-found.found.stay.items
passes c = subst (λ xs. ArePasses (grown c.args.states xs (sliced_tree c.args.tree.now)) c.in_ok-found.found.claims.items c.in_ok-found.found.own.items c.in_ok-found.found.owners.items
    c.in_ok-found.found.stay.items)
    c.as_slice.ensures c.in_ok-found.ensures

-- each list of names has room for those of the tree and for as many new ones
stay_size : (c : In_ok-found) → length c.in_ok-found.found.stay.items ≡ length c.args.tree.now.parents.now + length c.args.tree.now.parents.now
stay_size c = stay_sized c.args.states c.args.moves.now c.args.tree.now.parents.now (states_in c.args.tree.now) c.args.tree.now.places.now
    c.in_ok-found.found.claims.items c.in_ok-found.found.own.items c.in_ok-found.found.owners.items c.in_ok-found.found.stay.items (passes c)

-- each name has a rank
ranks_size : (c : In_ok-names) → length c.in_ok-names.names.ranks.items ≡ length c.deref.result.now
ranks_size c = ap length c.in_ok-names.ensures.ranks
    ∙ (length-map (range_with_len 0 (length c.deref.result.now)) (rank (flag c.deref.result.now)) ∙ length-range_with_len 0 (length c.deref.result.now))

-- whether some name claims the state
abbrev is_claimed : (c : After-from_vec-4) → ℕ → Bool
is_claimed c = λ s. nat_lt (at c.deref-4.result.now s) (length c.deref-5.result.now)

-- the new tree is what is finished of them
finish : (c : After-from_vec-4) → IsFinish c.args.states c.args.moves.now c.args.tree.now.parents.now (states_in c.args.tree.now) c.args.tree.now.places.now
    c.in_ok-found.found.claims.items c.in_ok-found.found.own.items c.in_ok-found.found.owners.items c.in_ok-found.found.stay.items
    c.in_ok-names.names.count c.in_ok-names.names.ranks.items c.from_vec.result (c.from_vec-2.result ++ c.from_vec-3.result) c.from_vec-4.result
finish c =
    let found = c.in_ok-found.found in
    let passes : ArePasses (grown c.args.states c.args.moves.now (sliced_tree c.args.tree.now)) found.claims.items found.own.items found.owners.items found.stay.items =
    subst (λ xs. ArePasses (grown c.args.states xs (sliced_tree c.args.tree.now)) found.claims.items found.own.items found.owners.items found.stay.items) c.as_slice.ensures c.in_ok-found.ensures in
    finish_of c.args.states c.args.moves.now c.args.tree.now.parents.now (states_in c.args.tree.now) c.args.tree.now.places.now
    c.in_ok-found.found.claims.items c.in_ok-found.found.own.items c.in_ok-found.found.owners.items c.in_ok-found.found.stay.items
    c.in_ok-names.names.count c.in_ok-names.names.ranks.items c.from_vec.result (c.from_vec-2.result ++ c.from_vec-3.result) c.from_vec-4.result
    c.deref.result.now c.deref-2.result.now c.deref-3.result.now c.args.tree.now.parents.now c.deref-4.result.now c.deref-5.result.now c.deref-6.result.now passes (record {
      stay_one = c.deref.ensures.value;
      stay_two = c.deref-2.ensures.value;
      ranks_one = c.deref-3.ensures.value;
      ranks_two = c.deref-6.ensures.value;
      parents_one = refl;
      claims_one = c.deref-4.ensures.value;
      homes_one = c.deref-5.ensures.value;
      counts = c.in_ok-names.ensures.count;
      ranked = c.in_ok-names.ensures.ranks;
      parents_are = c.from_vec.ensures ∙ c.in_ok-parents.ensures;
      states_are = names_of_split c.args.narrow (is_claimed c) (length c.deref-4.result.now) c.from_vec-2.result c.from_vec-3.result
          (c.from_vec-2.ensures ∙ c.in_ok-made.ensures.low) (c.from_vec-3.ensures ∙ c.in_ok-made.ensures.rest);
      places_are = c.from_vec-4.ensures ∙ c.in_ok-made.ensures.places;
    })

pub new_names-requires : goal.new_names-requires
new_names-requires c = let sized = stay_size (goal.at.new_names-requires c).In_ok-found in omega (arith, ap length c.deref.ensures.value, sized, c.requires.stored.few)

pub returns-then-names-gt-MOST_NODES-clause-nodes : goal.returns-then-names-gt-MOST_NODES-clause-nodes
returns-then-names-gt-MOST_NODES-clause-nodes c =
    let counts = c.in_ok-names.ensures.count ∙ ap (λ xs. rank (flag xs) (length xs)) c.deref.ensures.value in
    let many = finished_count c.args.states c.args.moves.now c.args.tree.now.parents.now (states_in c.args.tree.now) c.args.tree.now.places.now
    c.in_ok-found.found.claims.items c.in_ok-found.found.own.items c.in_ok-found.found.owners.items c.in_ok-found.found.stay.items c.in_ok-names.names.count
    (passes (goal.at.returns-then-names-gt-MOST_NODES-clause-nodes c).In_ok-found) counts in
    λ is. omega (arith, c.if-names-gt-MOST_NODES.true, many)

pub new_parents-requires-clause-size : goal.new_parents-requires-clause-size
new_parents-requires-clause-size c =
    let sized = stay_size (goal.at.new_parents-requires-clause-size c).In_ok-found in
    omega (arith, ap length c.deref-2.ensures.value, sized)

pub new_parents-requires-clause-ranks : goal.new_parents-requires-clause-ranks
new_parents-requires-clause-ranks c =
    let ranks = ranks_size (goal.at.new_parents-requires-clause-ranks c).In_ok-names in
    omega (arith, ap length c.deref-3.ensures.value, ap length c.deref-2.ensures.value, ap length c.deref.ensures.value, ranks)

pub new_places-requires-clause-few : goal.new_places-requires-clause-few
new_places-requires-clause-few c =
    let claimed = claims_length (grown c.args.states c.args.moves.now (sliced_tree c.args.tree.now)) c.in_ok-found.found.claims.items c.in_ok-found.found.own.items
    c.in_ok-found.found.owners.items c.in_ok-found.found.stay.items
    (passes (goal.at.new_places-requires-clause-few c).In_ok-found) in
    omega (arith, ap length c.deref-4.ensures.value, claimed, c.requires.numbers)

pub new_places-requires-clause-size : goal.new_places-requires-clause-size
new_places-requires-clause-size c =
    let at = (goal.at.new_places-requires-clause-size c).In_ok-found in
    let sized = homes_sized c.args.states c.args.moves.now c.args.tree.now.parents.now (states_in c.args.tree.now) c.args.tree.now.places.now
    c.in_ok-found.found.claims.items c.in_ok-found.found.own.items c.in_ok-found.found.owners.items c.in_ok-found.found.stay.items (passes at) in
    let stays = stay_size at in
    let ranks = ranks_size (goal.at.new_places-requires-clause-size c).In_ok-names in
    omega (arith, ap length c.deref-6.ensures.value, ap length c.deref-5.ensures.value, ap length c.deref.ensures.value, ranks, sized, stays)

pub least_gone-requires : goal.least_gone-requires
least_gone-requires c = let sized = stay_size (goal.at.least_gone-requires c).In_ok-found in omega (arith, ap length c.deref-7.ensures.value, sized, c.nodes.ensures)

pub least_covered-requires-clause-fit : goal.least_covered-requires-clause-fit
least_covered-requires-clause-fit c =
    let sized = own_sized c.args.states c.args.moves.now c.args.tree.now.parents.now (states_in c.args.tree.now) c.args.tree.now.places.now
    c.in_ok-found.found.claims.items c.in_ok-found.found.own.items c.in_ok-found.found.owners.items c.in_ok-found.found.stay.items (passes (goal.at.least_covered-requires-clause-fit c).In_ok-found) in
    omega (arith, ap length c.deref-9.ensures.value, sized, c.requires.stored.few)

pub invariant_of-new : goal.invariant_of-new
invariant_of-new c = record {
  stored = finished_stored c.args.states c.args.moves.now c.args.tree.now.parents.now (states_in c.args.tree.now) c.args.tree.now.places.now
      c.in_ok-found.found.claims.items c.in_ok-found.found.own.items c.in_ok-found.found.owners.items c.in_ok-found.found.stay.items
      c.in_ok-names.names.count c.in_ok-names.names.ranks.items c.from_vec.result (c.from_vec-2.result ++ c.from_vec-3.result) c.from_vec-4.result
      c.requires.stored (finish (goal.at.invariant_of-new c).After-from_vec-4) c.if-names-gt-MOST_NODES.false;
}

pub returns-clause-tree : goal.returns-clause-tree
returns-clause-tree c = finished_tree c.args.states c.args.moves.now c.args.tree.now.parents.now (states_in c.args.tree.now) c.args.tree.now.places.now
    c.in_ok-found.found.claims.items c.in_ok-found.found.own.items c.in_ok-found.found.owners.items c.in_ok-found.found.stay.items
    c.in_ok-names.names.count c.in_ok-names.names.ranks.items c.from_vec.result (c.from_vec-2.result ++ c.from_vec-3.result) c.from_vec-4.result
    c.requires.stored (finish (goal.at.returns-clause-tree c).After-from_vec-4)

pub returns-clause-states : goal.returns-clause-states
returns-clause-states c = finished_below c.args.states c.args.moves.now c.args.tree.now.parents.now (states_in c.args.tree.now) c.args.tree.now.places.now
    c.in_ok-found.found.claims.items c.in_ok-found.found.own.items c.in_ok-found.found.owners.items c.in_ok-found.found.stay.items
    c.in_ok-names.names.count c.in_ok-names.names.ranks.items c.from_vec.result (c.from_vec-2.result ++ c.from_vec-3.result) c.from_vec-4.result
    c.requires.stored (finish (goal.at.returns-clause-states c).After-from_vec-4) c.if-names-gt-MOST_NODES.false

pub returns-clause-few : goal.returns-clause-few
returns-clause-few c =
    let counts = (finish (goal.at.returns-clause-few c).After-from_vec-4).counts in
    let many = finished_count c.args.states c.args.moves.now c.args.tree.now.parents.now (states_in c.args.tree.now) c.args.tree.now.places.now
    c.in_ok-found.found.claims.items c.in_ok-found.found.own.items c.in_ok-found.found.owners.items c.in_ok-found.found.stay.items c.in_ok-names.names.count
    (passes (goal.at.returns-clause-few c).In_ok-found) counts in
    let is = returns-clause-tree c in
    omega (arith, ap length is, c.if-names-gt-MOST_NODES.false, many)

pub returns-clause-event : goal.returns-clause-event
returns-clause-event c =
    let tree = c.args.tree.now in
    let n = c.args.states in
    let ms = c.args.moves.now in
    let stay = c.in_ok-found.found.stay.items in
    let passed = passes (goal.at.returns-clause-event c).In_ok-found in
    let red : c.least_gone.result ≡ least (reds (grown n ms (sliced_tree tree)) (length (sliced_tree tree))) =
    c.least_gone.ensures ∙ (ap (λ (xs : List Bool). least (filter (λ y. not (flag xs y)) (range_with_len 0 c.nodes.result))) c.deref-7.ensures.value
    ∙ finished_red n ms tree.parents.now (states_in tree) tree.places.now c.in_ok-found.found.claims.items c.in_ok-found.found.own.items c.in_ok-found.found.owners.items c.in_ok-found.found.stay.items
    c.nodes.result passed (c.nodes.ensures ∙ sym (nodes_length tree.parents.now (states_in tree) tree.places.now))) in
    let green : c.least_covered.result ≡ least (greens (grown n ms (sliced_tree tree))) =
    c.least_covered.ensures ∙ (ap (λ (xs : List Bool). least (filter (λ y. flag xs y && not (flag c.deref-9.result.now y)) (range_with_len 0 (length c.deref-9.result.now)))) c.deref-8.ensures.value
    ∙ (ap (λ (xs : List Bool). least (filter (λ y. flag stay y && not (flag xs y)) (range_with_len 0 (length xs)))) c.deref-9.ensures.value
    ∙ finished_green n ms tree.parents.now (states_in tree) tree.places.now c.in_ok-found.found.claims.items c.in_ok-found.found.own.items c.in_ok-found.found.owners.items
    c.in_ok-found.found.stay.items
    c.requires.stored passed)) in
    let with_red : Option ℕ → Event = λ r. record { red = r; green = c.least_covered.result } in
    let with_green : Option ℕ → Event = λ g. record { red = least (reds (grown n ms (sliced_tree tree)) (length (sliced_tree tree))); green = g } in
    ap with_red red ∙ ap with_green green

pub returns-clause-split : goal.returns-clause-split
returns-clause-split c =
    let at = (goal.at.returns-clause-split c).After-from_vec-4 in
    names_split c.args.narrow (is_claimed at) (length c.deref-4.result.now) c.from_vec-2.result c.from_vec-3.result
    (c.from_vec-2.ensures ∙ c.in_ok-made.ensures.low) (c.from_vec-3.ensures ∙ c.in_ok-made.ensures.rest)
