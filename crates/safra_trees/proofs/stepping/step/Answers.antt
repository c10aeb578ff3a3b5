use Rattle.std.proofs.Common.{◌∙◌, ◌<◌, All, List, ap, arith, length, map, subst, sym}
use Rattle.std.proofs.lemmas.List.{length-map}
use Rattle.std.specs.List.Sorted.{IsStrictlyIncreasing}
use Rattle.aut_base.proofs.Outcomes.{passed_on}
use Rattle.aut_base.specs.declared.limit.TheConstants.{MOST_NODES}
use Rattle.safra_trees.proofs.flat_step.Placed.{stored_root}
use Rattle.safra_trees.proofs.flat_step.Sight.{IsSmall, is_sight, moves_seen, pruned_below, small_event, small_of, small_step, states_seen}
use Rattle.safra_trees.specs.Events.{IsMoveInRange, event_of}
use Rattle.safra_trees.specs.Flat.{at}
use Rattle.safra_trees.specs.Step.{grown, pruned}
use Rattle.safra_trees.specs.Trees.{root_states}
use Rattle.safra_trees.specs.View.{tree_of}
use Rattle.safra_trees.specs.declared.moves.Move.{Move}
use Rattle.safra_trees.specs.inner.Sight.{IsSeen, node_by}
use Rattle.safra_trees.proofs.stepping.step.Goals.{In_ok-few}
use Rattle.safra_trees.proofs.stepping.step.Goals as goal

pub small_tree-requires-clause-rises : goal.small_tree-requires-clause-rises
small_tree-requires-clause-rises c = subst IsStrictlyIncreasing (sym c.as_slice-seen.ensures) c.in_ok-sight.ensures.rises

pub small_tree-requires-clause-there : goal.small_tree-requires-clause-there
small_tree-requires-clause-there c =
    let tree = c.args.tree.now in
    let seen = is_sight c.as_slice.result.now (root_states (tree_of tree)) c.as_slice-2.result.now c.args.moves.now c.in_ok-sight.sight c.as_slice-seen.result.now c.in_ok-sight.ensures
    (c.as_slice.ensures ∙ sym (stored_root tree.parents tree.states tree.places tree.stored)) c.as_slice-2.ensures c.as_slice-seen.ensures in
    states_seen (root_states (tree_of tree)) c.as_slice-seen.result.now c.args.moves.now seen.keeps

pub moves_in-requires-clause-rises : goal.moves_in-requires-clause-rises
moves_in-requires-clause-rises c = subst IsStrictlyIncreasing (sym c.as_slice-seen.ensures) c.in_ok-sight.ensures.rises

pub moves_in-requires-clause-there : goal.moves_in-requires-clause-there
moves_in-requires-clause-there c =
    let tree = c.args.tree.now in
    let seen = is_sight c.as_slice.result.now (root_states (tree_of tree)) c.as_slice-2.result.now c.args.moves.now c.in_ok-sight.sight c.as_slice-seen.result.now c.in_ok-sight.ensures
    (c.as_slice.ensures ∙ sym (stored_root tree.parents tree.states tree.places tree.stored)) c.as_slice-2.ensures c.as_slice-seen.ensures in
    subst (λ (ms : List Move). All (λ e. IsSeen c.as_slice-seen.result.now e) ms) (sym c.as_slice-3.ensures)
    (moves_seen (root_states (tree_of tree)) c.as_slice-seen.result.now c.args.moves.now seen.keeps)

pub count_of-requires : goal.count_of-requires
count_of-requires c = subst IsStrictlyIncreasing (sym c.as_slice-seen.ensures) c.in_ok-sight.ensures.rises

pub stepped-requires-clause-states : goal.stepped-requires-clause-states
stepped-requires-clause-states c = subst (λ n. All (λ s. s < n) (root_states (tree_of c.in_ok-small.small))) (sym c.count_of.ensures.is) c.in_ok-small.ensures.below

pub stepped-requires-clause-moves : goal.stepped-requires-clause-moves
stepped-requires-clause-moves c = subst (λ n. All (IsMoveInRange n) c.in_ok-few.few) (sym c.count_of.ensures.is) c.in_ok-few.ensures.within

pub named_tree-requires-clause-rises : goal.named_tree-requires-clause-rises
named_tree-requires-clause-rises c = subst IsStrictlyIncreasing (sym c.as_slice-seen.ensures) c.in_ok-sight.ensures.rises

pub named_tree-requires-clause-below : goal.named_tree-requires-clause-below
named_tree-requires-clause-below c = subst (λ n. All (λ s. s < n) (root_states (tree_of c.in_ok-found.found.0))) c.count_of.ensures.is c.in_ok-found.ensures.states

-- the renumbered tree and moves are those of the tree and the moves
small : (c : In_ok-few) → IsSmall c.as_slice-seen.result.now c.args.moves.now (tree_of c.args.tree.now) c.in_ok-few.few (tree_of c.in_ok-small.small)
small c =
    let tree = c.args.tree.now in
    let few = c.in_ok-small.small in
    small_of tree.parents tree.states tree.places c.as_slice.result.now c.in_ok-sight.sight c.as_slice-seen.result.now c.args.moves.now c.as_slice-2.result.now c.as_slice-3.result.now
    c.in_ok-few.few few.parents few.states few.places tree.stored few.stored c.in_ok-sight.ensures c.as_slice.ensures c.as_slice-2.ensures c.as_slice-seen.ensures c.in_ok-few.ensures.within
    c.in_ok-few.ensures.are c.as_slice-3.ensures c.in_ok-small.ensures.below c.in_ok-small.ensures.are

pub returns-clause-tree : goal.returns-clause-tree
returns-clause-tree c = λ n are. (
    let sight = c.as_slice-seen.result.now in
    let t = tree_of c.in_ok-small.small in
    c.in_ok-named.ensures ∙ (ap (map (node_by (at sight))) (c.in_ok-found.ensures.tree ∙ ap (λ k. pruned (grown k c.in_ok-few.few t)) c.count_of.ensures.is)
    ∙ sym (small_step sight c.args.moves.now (tree_of c.args.tree.now) c.in_ok-few.few t (small (goal.at.returns-clause-tree c).In_ok-few) n are)))

pub returns-clause-states : goal.returns-clause-states
returns-clause-states c = λ n are. (
    let is = returns-clause-tree c n are in
    subst (λ t. All (λ s. s < n) (root_states t)) (sym is) (pruned_below (grown n c.args.moves.now (tree_of c.args.tree.now))))

pub returns-clause-event : goal.returns-clause-event
returns-clause-event c = λ n are. (
    let t = tree_of c.in_ok-small.small in
    c.in_ok-found.ensures.event ∙ (ap (λ k. event_of k c.in_ok-few.few t) c.count_of.ensures.is
    ∙ sym (small_event c.as_slice-seen.result.now c.args.moves.now (tree_of c.args.tree.now) c.in_ok-few.few t (small (goal.at.returns-clause-event c).In_ok-few) n are)))

pub returns-clause-few : goal.returns-clause-few
returns-clause-few c = omega (arith, ap length c.in_ok-named.ensures, length-map (tree_of c.in_ok-found.found.0) (node_by (at c.as_slice-seen.result.now)), c.in_ok-found.ensures.few)

pub returns-in_err-found-clause-nodes : goal.returns-in_err-found-clause-nodes
returns-in_err-found-clause-nodes c = λ is n are. (
    let sight = c.as_slice-seen.result.now in
    let t = tree_of c.in_ok-small.small in
    let left = pruned (grown (length sight) c.in_ok-few.few t) in
    let told = passed_on c.from_residual-in_err-found.result _ _ c.from_residual-in_err-found.ensures.1 is in
    let many : MOST_NODES < length left = subst (λ k. MOST_NODES < length (pruned (grown k c.in_ok-few.few t))) c.count_of.ensures.is (c.in_err-found.ensures.nodes told) in
    let same = small_step sight c.args.moves.now (tree_of c.args.tree.now) c.in_ok-few.few t (small (goal.at.returns-in_err-found-clause-nodes c).In_ok-few) n are in
    omega (arith, many, ap length same, length-map left (node_by (at sight))))
