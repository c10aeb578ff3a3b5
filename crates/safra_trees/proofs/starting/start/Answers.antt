use Rattle.std.proofs.Common.{◌≡◌, ◌∙◌, ◌<◌, All, Contains, List, ap, length, min, replicate, subst, sym, ℕ}
use Rattle.safra_trees.proofs.flat_step.First.{started_below, started_names, started_stored, started_tree}
use Rattle.safra_trees.specs.Flat.{IsStored}
use Rattle.safra_trees.specs.inner.Names.{has, names_where}
use Rattle.safra_trees.proofs.starting.start.Goals.{After-from_vec-3}
use Rattle.safra_trees.proofs.starting.start.Goals as goal

-- the lists of the tree: the starts in rising order, a parent for each node, and a place for each state
states_are : (c : After-from_vec-3) → (n : ℕ) → All (λ s. s < n) c.args.starts.now → c.in_order-states.result ≡ names_where (has c.args.starts.now) n
states_are c n all =
    let is : c.from_vec.result ≡ c.args.starts.now = c.from_vec.ensures ∙ (c.in_ok-listed.ensures.items ∙ c.as_slice.ensures) in
    started_names n c.args.starts.now c.in_order-states.result c.in_order-states.ensures.rises
    (λ q there. c.in_order-states.ensures.keeps q (subst (λ (xs : List ℕ). Contains xs q) (sym is) there))
    (λ q there. subst (λ (xs : List ℕ). Contains xs q) is (c.in_order-states.ensures.adds_none q there)) all

parents_are : (c : After-from_vec-3) → c.from_vec-2.result ≡ replicate (min (length c.in_order-states.result) 1) 0
parents_are c = c.from_vec-2.ensures ∙ (c.in_ok-parents.ensures.items_if_clones_equal (λ y e. e) ∙ ap (λ k. replicate k 0) (c.min.ensures ∙ ap (λ k. min k 1) c.len.ensures))

places_are : (c : After-from_vec-3) → c.from_vec-3.result ≡ replicate (length c.in_order-states.result) 0
places_are c = c.from_vec-3.ensures ∙ (c.in_ok-places.ensures.items_if_clones_equal (λ y e. e) ∙ ap (λ k. replicate k 0) c.len-2.ensures)

stored : (c : After-from_vec-3) → IsStored c.from_vec-2.result c.in_order-states.result c.from_vec-3.result
stored c = started_stored c.in_order-states.result c.from_vec-2.result c.from_vec-3.result c.in_order-states.ensures.rises (parents_are c) (places_are c)

pub invariant_of-result : goal.invariant_of-result
invariant_of-result c = record { stored = stored (goal.at.invariant_of-result c).After-from_vec-3 }

pub returns-clause-tree : goal.returns-clause-tree
returns-clause-tree c = λ n all. (
    let at = (goal.at.returns-clause-tree c).After-from_vec-3 in
    started_tree n c.args.starts.now c.in_order-states.result c.from_vec-2.result c.from_vec-3.result (states_are at n all) (parents_are at) (places_are at))

pub returns-clause-states : goal.returns-clause-states
returns-clause-states c = λ n all. (
    let at = (goal.at.returns-clause-states c).After-from_vec-3 in
    started_below n c.args.starts.now c.in_order-states.result c.from_vec-2.result c.from_vec-3.result (stored at) (states_are at n all))
