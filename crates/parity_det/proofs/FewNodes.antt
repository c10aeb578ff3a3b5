-- A tree has no more nodes than there are useful states: each node has a useful state of its own.
use Rattle.std.proofs.Common.{◌≡◌, ◌∙◌, ◌-◌, ◌≤◌, ◌==◌, ◌&&◌, ℕ, zero, suc, Bool, true, false, Contains, List, [], ◌∷◌, ap, arith, inl, inr, length, max, slice_get, subst, sym}
use Rattle.std.proofs.lemmas.Bool.{and_parts, cases_lt, eqb-true}
use Rattle.std.specs.List.{list_any, range_with_len}
use Rattle.aut_base.proofs.lists.Members.{any_found, first_there, from_filter, from_flat_map, from_map, later_there, there_at}
use Rattle.aut_base.specs.Automaton.{Automaton, LabelledEdge}
use Rattle.aut_base.specs.Valuation.{truth_on}
use Rattle.aut_core.specs.Surveys.{edges_from}
use Rattle.aut_ops.specs.Satisfiable.{is_flagged}
use Rattle.aut_ops.specs.inner.Parts.{is_kept_edge}
use Rattle.aut_ops.specs.Pruning.{IsPruned}
use Rattle.exploration.specs.Reached.{IsExplored, LeadsTo}
use Rattle.exploration.specs.Turns.{Transition}
use Rattle.letter_classes.specs.SetClasses.{set_edges}
use Rattle.parity_det.proofs.Explored.{reached_tree, step_given}
use Rattle.parity_det.proofs.TreeMoves.{start_tree, tree_classes}
use Rattle.parity_det.specs.Determinisation.{class_moves, tree_moves, width}
use Rattle.safra_trees.specs.Same.{same_nodes}
use Rattle.parity_laws.specs.Buchi.{move_of}
use Rattle.safra_laws.proofs.TreesAfter.{held_below, holds_within}
use Rattle.safra_laws.proofs.invariant.FewNames.{HoldsOnly, few_passing}
use Rattle.safra_laws.proofs.invariant.FirstTree.{tree_if}
use Rattle.safra_laws.specs.Rounds.{next_tree}
use Rattle.safra_trees.proofs.list_step.Pruned.{has_parts, new_holds, old_holds, pruned_length, pruned_parts}
use Rattle.safra_trees.proofs.list_step.Ranks.{rank_back}
use Rattle.safra_trees.specs.Step as step
use Rattle.safra_trees.specs.Step.{grown, pruned}
use Rattle.safra_trees.specs.inner.Names.{has, rank}
use Rattle.safra_trees.specs.Trees.{Node, holds, root_states}
use Rattle.safra_trees.specs.declared.moves.Move as moves

-- each state that a tree holds after a step is the target of some move
record Moved (ms : List moves.Move) (q : ℕ) : Type 0 where
  move : moves.Move
  there : Contains ms move
  to : move.to ≡ q

moved : (n : ℕ) (ms : List moves.Move) (t : List Node) (x q : ℕ) → holds (next_tree n ms t) x q ≡ true → Moved ms q
moved n ms t x q h =
    let f = grown n ms t in
    let within = holds_within (next_tree n ms t) x q h in
    let at = rank_back (step.survives f) f.size x (omega (arith, within, pruned_length f)) in
    let kept = (pruned_parts f at.name q at.below at.stays (subst (λ y. holds (pruned f) y q ≡ true) (sym at.is) h)).0 in
    let held : f.holds at.name q ≡ true = (and_parts (f.holds at.name q) _ kept).0 in
    elim (cases_lt at.name (length t)) [
      | inl old ↦ (
          let found = any_found (λ (m : moves.Move). holds t at.name m.from && (m.to == q)) ms (sym (old_holds n ms t at.name q old) ∙ held) in
          let parts = and_parts (holds t at.name found.0.from) (found.0.to == q) found.2 in
          record { move = found.0; there = found.1; to = eqb-true found.0.to q parts.1 })
      | inr new ↦ (
          let found = any_found (λ (m : moves.Move). m.accepting && (holds t (at.name - length t) m.from && (m.to == q))) ms (sym (new_holds n ms t at.name q new) ∙ held) in
          let parts = and_parts found.0.accepting (holds t (at.name - length t) found.0.from && (found.0.to == q)) found.2 in
          let rest = and_parts (holds t (at.name - length t) found.0.from) (found.0.to == q) parts.1 in
          record { move = found.0; there = found.1; to = eqb-true found.0.to q rest.1 })
    ]

module _ (b : Automaton) (p : ℕ → Bool) (starts : (s : ℕ) → Contains b.starts s → p s ≡ true) (ends : (e : LabelledEdge) → Contains b.edges e → p e.to ≡ true) where
  first_only : HoldsOnly p b.states (start_tree b)
  first_only = by_cases (list_any (has b.starts) (range_with_len 0 b.states))
    where
      by_cases : (some : Bool) → HoldsOnly p b.states (tree_if b.states b.starts some)
      by_cases false x s h = absurd (omega (arith, holds_within (tree_if b.states b.starts false) x s h))
      by_cases true zero s h =
          let parts = has_parts (has b.starts) b.states s h in
          let found = any_found (λ x. x == s) b.starts parts.0 in
          (subst (λ q. p q ≡ true) (eqb-true found.0 s found.2) (starts found.0 found.1), parts.1)
      by_cases true (suc x) s h = absurd (omega (arith, holds_within (tree_if b.states b.starts true) (suc x) s h))

  next_only : (t : List Node) (v : List Bool) → HoldsOnly p b.states (next_tree b.states (class_moves b t v) t)
  next_only t v x s h =
      let ms = class_moves b t v in
      let m = moved b.states ms t x s h in
      let edges = set_edges b (root_states t) in
      let found = from_map move_of _ m.move m.there in
      let kept = from_filter (λ (e : LabelledEdge). truth_on e.label v) edges found.0 found.1 in
      let place = from_flat_map (λ q. edges_from q b.edges) (root_states t) found.0 kept.0 in
      let edge = from_filter (λ (e : LabelledEdge). e.from == place.0) b.edges found.0 place.2 in
      let to : found.0.to ≡ s = ap (λ (d : moves.Move). d.to) found.2 ∙ m.to in
      (subst (λ q. p q ≡ true) to (ends found.0 edge.0), held_below b.states ms t x s (holds_within (next_tree b.states ms t) x s h) h)

  leads_only : (ks : List ℕ) (x y : List Node) → HoldsOnly p b.states x → LeadsTo (tree_moves b) x ks y → HoldsOnly p b.states y
  leads_only [] x y only e = subst (HoldsOnly p b.states) e only
  leads_only (k ∷ ks) x y only path_edges =
      let step = step_given b x (slice_get (tree_classes b x) k) path_edges.1 path_edges.2 in
      leads_only ks path_edges.1 y (subst (HoldsOnly p b.states) step.is (next_only x step.valuation)) path_edges.3

  width_passing : (trees : List (List Node)) → ((t : List Node) → Contains trees t → length t ≤ rank p b.states) → width trees ≤ max 1 (rank p b.states)
  width_passing [] each = omega arith
  width_passing (t ∷ ts) each =
      let here = each t (first_there t ts) in
      let rest = width_passing ts (λ u there. each u (later_there t ts u there)) in
      omega (arith, here, rest)

  pub few_widths : (trees : List (List Node)) (transitions : List Transition) → IsExplored same_nodes (tree_moves b) (start_tree b) trees transitions → width trees ≤ max 1 (rank p b.states)
  few_widths trees transitions is = width_passing trees (λ t there.
      let at = there_at trees t there in
      let reached = is.reached at.0 t at.1 in
      few_passing p b.states t (reached_tree b t reached) (leads_only reached.word (start_tree b) t first_only reached.leads))

-- the trees of a pruned automaton have at most as many nodes as there are useful states, or 1
pub pruned_widths : (a b : Automaton) (is : IsPruned a b) (trees : List (List Node)) (transitions : List Transition) → IsExplored same_nodes (tree_moves b) (start_tree b) trees transitions
    → width trees ≤ max 1 (rank (is_flagged is.flags) a.states)
pruned_widths a b is trees transitions found =
    let flags = is.flags in
    let states : b.states ≡ a.states = ap (λ (x : Automaton). x.states) is.is in
    subst (λ n. width trees ≤ max 1 (rank (is_flagged flags) n)) states (few_widths b (is_flagged flags)
    (λ s there. (from_filter (is_flagged flags) a.starts s (subst (λ (x : Automaton). Contains x.starts s) is.is there)).1)
    (λ e there. (
    let kept = from_filter (is_kept_edge (length a.names) flags) a.edges e (subst (λ (x : Automaton). Contains x.edges e) is.is there) in
    let parts = and_parts _ (is_flagged flags e.from && is_flagged flags e.to) kept.1 in
    (and_parts (is_flagged flags e.from) (is_flagged flags e.to) parts.1).1
    ))
    trees transitions found)
