use Rattle.std.proofs.Common.{◌≡◌, ◌∙◌, ◌<◌, All, Contains, List, ap, length, map, subst, sym, ℕ}
use Rattle.safra_trees.proofs.flat_step.Placed.{stored_root}
use Rattle.safra_trees.proofs.flat_step.Sight.{same_stored, small_nodes, small_stored}
use Rattle.safra_trees.specs.Flat.{IsStored, at}
use Rattle.safra_trees.specs.Trees.{root_states}
use Rattle.safra_trees.specs.View.{tree_of}
use Rattle.safra_trees.proofs.stepping.small_tree.Goals.{After-from_vec-3}
use Rattle.safra_trees.proofs.stepping.small_tree.Goals as goal

pub places_in-requires-clause-there : goal.places_in-requires-clause-there
places_in-requires-clause-there c =
    let tree = c.args.tree.now in
    let e : root_states (tree_of tree) ≡ c.as_slice.result.now = stored_root tree.parents tree.states tree.places tree.stored ∙ sym c.as_slice.ensures in
    subst (λ (xs : List ℕ). All (λ s. Contains c.args.sight.now s) xs) e c.requires.there

parents_are : (c : After-from_vec-3) → c.from_vec.result ≡ c.args.tree.now.parents
parents_are c = c.from_vec.ensures ∙ (c.in_ok-parents.ensures.items ∙ c.as_slice-2.ensures)

places_are : (c : After-from_vec-3) → c.from_vec-3.result ≡ c.args.tree.now.places
places_are c = c.from_vec-3.ensures ∙ (c.in_ok-places.ensures.items ∙ c.as_slice-3.ensures)

states_below : (c : After-from_vec-3) → All (λ x. x < length c.args.sight.now) c.from_vec-2.result
states_below c = subst (λ (xs : List ℕ). All (λ x. x < length c.args.sight.now) xs) (sym c.from_vec-2.ensures) c.in_ok-states.ensures.below

states_are : (c : After-from_vec-3) → map (at c.args.sight.now) c.from_vec-2.result ≡ c.args.tree.now.states
states_are c = ap (map (at c.args.sight.now)) c.from_vec-2.ensures ∙ (c.in_ok-states.ensures.are ∙ c.as_slice.ensures)

stored : (c : After-from_vec-3) → IsStored c.from_vec.result c.from_vec-2.result c.from_vec-3.result
stored c =
    let tree = c.args.tree.now in
    same_stored tree.parents tree.places c.from_vec.result c.from_vec-2.result c.from_vec-3.result (parents_are c) (places_are c)
    (small_stored c.args.sight.now tree.parents tree.states tree.places c.from_vec-2.result tree.stored c.requires.rises (states_below c) (states_are c))

pub invariant_of-result : goal.invariant_of-result
invariant_of-result c = record { stored = stored (goal.at.invariant_of-result c).After-from_vec-3 }

pub returns-clause-below : goal.returns-clause-below
returns-clause-below c =
    let at = (goal.at.returns-clause-below c).After-from_vec-3 in
    subst (λ (xs : List ℕ). All (λ x. x < length c.args.sight.now) xs) (sym (stored_root c.from_vec.result c.from_vec-2.result c.from_vec-3.result (stored at))) (states_below at)

pub returns-clause-are : goal.returns-clause-are
returns-clause-are c =
    let at = (goal.at.returns-clause-are c).After-from_vec-3 in
    let tree = c.args.tree.now in
    small_nodes c.args.sight.now tree.parents tree.states tree.places c.from_vec.result c.from_vec-2.result c.from_vec-3.result (parents_are at) (places_are at) (states_are at)
