use Rattle.std.proofs.Common.{◌≡◌, ◌∙◌, ◌<◌, All, List, ap, length, map, subst, sym, ℕ}
use Rattle.safra_trees.proofs.flat_step.Placed.{stored_root}
use Rattle.safra_trees.proofs.flat_step.Sight.{named_nodes, named_stored, same_stored}
use Rattle.safra_trees.specs.Flat.{at}
use Rattle.safra_trees.specs.Trees.{root_states}
use Rattle.safra_trees.specs.View.{tree_of}
use Rattle.safra_trees.proofs.stepping.named_tree.Goals.{After-from_vec-3}
use Rattle.safra_trees.proofs.stepping.named_tree.Goals as goal

pub states_at-requires : goal.states_at-requires
states_at-requires c =
    let small = c.args.small.now in
    let e : root_states (tree_of small) ≡ c.as_slice.result.now = stored_root small.parents small.states small.places small.stored ∙ sym c.as_slice.ensures in
    subst (λ (xs : List ℕ). All (λ x. x < length c.args.sight.now) xs) e c.requires.below

parents_are : (c : After-from_vec-3) → c.from_vec.result ≡ c.args.small.now.parents
parents_are c = c.from_vec.ensures ∙ (c.in_ok-parents.ensures.items ∙ c.as_slice-2.ensures)

places_are : (c : After-from_vec-3) → c.from_vec-3.result ≡ c.args.small.now.places
places_are c = c.from_vec-3.ensures ∙ (c.in_ok-places.ensures.items ∙ c.as_slice-3.ensures)

states_are : (c : After-from_vec-3) → c.from_vec-2.result ≡ map (at c.args.sight.now) c.args.small.now.states
states_are c = c.from_vec-2.ensures ∙ (c.in_ok-states.ensures ∙ ap (map (at c.args.sight.now)) c.as_slice.ensures)

pub invariant_of-result : goal.invariant_of-result
invariant_of-result c =
    let at = (goal.at.invariant_of-result c).After-from_vec-3 in
    let small = c.args.small.now in
    let below = subst (λ (xs : List ℕ). All (λ x. x < length c.args.sight.now) xs) (stored_root small.parents small.states small.places small.stored) c.requires.below in
    record {
      stored = same_stored small.parents small.places c.from_vec.result c.from_vec-2.result c.from_vec-3.result (parents_are at) (places_are at)
          (named_stored c.args.sight.now small.parents small.states small.places c.from_vec-2.result small.stored c.requires.rises below (states_are at));
    }

pub returns : goal.returns
returns c =
    let at = (goal.at.returns c).After-from_vec-3 in
    let small = c.args.small.now in
    named_nodes c.args.sight.now small.parents small.states small.places c.from_vec.result c.from_vec-2.result c.from_vec-3.result (parents_are at) (places_are at) (states_are at)
