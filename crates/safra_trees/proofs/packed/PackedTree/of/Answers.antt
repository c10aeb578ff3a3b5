use Rattle.std.proofs.Common.{◌≡◌, ◌∙◌, ◌++◌, ◌^◌, List, ap, filter, subst, sym, ℕ}
use Rattle.safra_trees.proofs.flat_step.Sight.{same_stored}
use Rattle.safra_trees.proofs.flat_step.Splits.{is_split, split_of}
use Rattle.safra_trees.specs.Flat.{IsStored, is_high, is_low, nodes_of}
use Rattle.safra_trees.proofs.packed.PackedTree.of.Goals.{After-from_vec-4}
use Rattle.safra_trees.proofs.packed.PackedTree.of.Goals as goal

parents_are : (c : After-from_vec-4) → c.from_vec.result ≡ c.args.tree.now.parents
parents_are c = c.from_vec.ensures ∙ (c.in_ok-parents.ensures.items ∙ c.as_slice.ensures)

places_are : (c : After-from_vec-4) → c.from_vec-4.result ≡ c.args.tree.now.places
places_are c = c.from_vec-4.ensures ∙ (c.in_ok-places.ensures.items ∙ c.as_slice-3.ensures)

low_are : (c : After-from_vec-4) → c.from_vec-2.result ≡ filter (is_low (2 ^ 16)) c.args.tree.now.states
low_are c = c.from_vec-2.ensures ∙ (c.in_ok-low.ensures.low ∙ ap (filter (is_low (2 ^ 16))) c.as_slice-2.ensures)

rest_are : (c : After-from_vec-4) → c.from_vec-3.result ≡ filter (is_high (2 ^ 16)) c.args.tree.now.states
rest_are c = c.from_vec-3.ensures ∙ (c.in_ok-low.ensures.rest ∙ ap (filter (is_high (2 ^ 16))) c.as_slice-2.ensures)

-- the two lists have the states in their order
states_are : (c : After-from_vec-4) → c.from_vec-2.result ++ c.from_vec-3.result ≡ c.args.tree.now.states
states_are c = split_of (2 ^ 16) c.args.tree.now.states c.from_vec-2.result c.from_vec-3.result c.args.tree.now.stored.rising (low_are c) (rest_are c)

pub invariant_of-result : goal.invariant_of-result
invariant_of-result c =
    let at = (goal.at.invariant_of-result c).After-from_vec-4 in
    let tree = c.args.tree.now in
    record {
      stored = same_stored tree.parents tree.places c.from_vec.result (c.from_vec-2.result ++ c.from_vec-3.result) c.from_vec-4.result (parents_are at) (places_are at)
          (subst (λ (xs : List ℕ). IsStored tree.parents xs tree.places) (sym (states_are at)) tree.stored);
    }

pub invariant_of-result-2 : goal.invariant_of-result-2
invariant_of-result-2 c =
    let at = (goal.at.invariant_of-result-2 c).After-from_vec-4 in
    record { split = is_split (2 ^ 16) c.args.tree.now.states c.from_vec-2.result c.from_vec-3.result c.args.tree.now.stored.rising (low_are at) (rest_are at) }

pub returns : goal.returns
returns c =
    let at = (goal.at.returns c).After-from_vec-4 in
    let tree = c.args.tree.now in
    ap (λ (xs : List ℕ). nodes_of xs (c.from_vec-2.result ++ c.from_vec-3.result) c.from_vec-4.result) (parents_are at)
    ∙ (ap (λ (xs : List ℕ). nodes_of tree.parents xs c.from_vec-4.result) (states_are at) ∙ ap (nodes_of tree.parents tree.states) (places_are at))
