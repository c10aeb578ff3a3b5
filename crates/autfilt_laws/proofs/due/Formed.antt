-- What forms and completion make of a well-formed automaton is well formed.
use Rattle.std.proofs.Common.{◌≡◌, ◌<◌, ◌≤◌, ℕ, Bool, true, false, zero, suc, All, AllPairs, Contains, List, [], ◌∷◌, arith, get_or, inl, inr, length, map, refl, subst, sym}
use Rattle.std.proofs.lemmas.List.Elements.{All-map, All-weaker}
use Rattle.std.proofs.lemmas.List.Kept.{AllPairs-filter}
use Rattle.std.proofs.lemmas.Option.{slice_get_within}
use Rattle.std.proofs.lemmas.Bool.{cases_Bool}
use Rattle.std.proofs.lemmas.Simd.{map-map}
use Rattle.std.specs.Cmp.Lexicographic.{pointwise}
use Rattle.std.specs.List.Sorted.{IsNonDecreasing}
use Rattle.std.specs.Prelude.{if◌then◌else◌, nat_eq, not}
use Rattle.acc_forms.specs.Atoms.{has_fin}
use Rattle.acc_forms.specs.Terms.{of_terms, terms}
use Rattle.ap_project.specs.Hiding.{hidden, hidden_label, names_without}
use Rattle.ap_project.specs.declared.hide.Hide.{Hide}
use Rattle.aut_base.proofs.canonical.CanonicalBelow.{label_of_below}
use Rattle.aut_base.proofs.lists.Members.{each_there, there_at}
use Rattle.aut_base.specs.Automaton.{Automaton, IsEdgeOf, IsWellFormed, LabelledEdge}
use Rattle.aut_base.specs.Formula.{SetsBelow}
use Rattle.aut_base.specs.Text.{same_text}
use Rattle.aut_core.specs.OtherNames.{is_among}
use Rattle.aut_ops.proofs.sinks.Completions.{with_sink_formed}
use Rattle.aut_ops.proofs.sinks.SinkStates.{completed_cases}
use Rattle.aut_ops.proofs.flagged.Between.{between_formed}
use Rattle.aut_ops.specs.Completion.{completed}
use Rattle.aut_ops.specs.Pruning.{IsPruned}
use Rattle.degeneralise.proofs.BuchiLaw.{buchi_copies, buchi_one}
use Rattle.degeneralise.proofs.LevelledWhole.{levelled_well_formed}
use Rattle.degeneralise.proofs.WatchLists.{room_in, room_of, some_room}
use Rattle.degeneralise.specs.Buchi.{buchi, is_generalised_buchi, levels, most_levels, watch_of, watches}
use Rattle.exploration.proofs.Edges.{transitions_rise, edge_from}
use Rattle.exploration.proofs.InOrder.{froms_rise}
use Rattle.exploration.specs.Reached.{IsExplored}
use Rattle.exploration.specs.Turns.{Transition}
use Rattle.fin_removal.proofs.Conditions.{below_parts, of_terms_holds}
use Rattle.fin_removal.proofs.CopiedWhole.{copied_well_formed}
use Rattle.fin_removal.specs.Copies.{copied, without_fin}
use Rattle.monitor_form.proofs.Formed.{explored_sets}
use Rattle.monitor_form.proofs.Explored.{IsExploredFrom, explored_by, monitor_edge}
use Rattle.monitor_form.specs.Monitors.{first_places}
use Rattle.monitor_form.specs.Subsets.{IsSubsetForm, monitor_on, start_set, subset_moves}
use Rattle.parity_det.proofs.Explored.{step_of}
use Rattle.parity_det.proofs.Formed.{explored_trees}
use Rattle.parity_det.proofs.Widths.{parity_below}
use Rattle.parity_det.proofs.TreeMoves.{start_tree, tree_classes}
use Rattle.parity_det.specs.Determinisation.{IsTreeForm, class_moves, parity_edge, parity_on, tree_moves, width}
use Rattle.parity_laws.specs.Determinised.{tree_at}
use Rattle.plan_meaning.proofs.changes.DisjunctiveForm.{terms_below}
use Rattle.safra_laws.proofs.parity.Least.{priorities_are_below}
use Rattle.safra_trees.specs.Same.{same_nodes}
use Rattle.safra_trees.specs.Trees.{Node}

one_start : AllPairs (λ (p q : ℕ). p ≡ q → ⊥) (0 ∷ [])
one_start i j d less within = absurd (omega (arith, less, within))

only_first : (n : ℕ) → 0 < n → All (λ (p : ℕ). p < n) (0 ∷ [])
only_first n some zero d within = some
only_first n some (suc k) d within = absurd (omega (arith, within))

-- ---- completion

pub completed_formed : (a : Automaton) → IsWellFormed a → IsWellFormed (completed a)
completed_formed a formed = elim (completed_cases a formed) [
  | inl same ↦ subst IsWellFormed (sym same.1) formed
  | inr other ↦ subst IsWellFormed (sym other.1) (with_sink_formed a formed)
]

-- ---- a hidden name

others_formed : (how : Hide) (name : List ℕ) (a : Automaton) → IsWellFormed a
    → IsWellFormed (record a { names = names_without name a.names; edges = map (λ (e : LabelledEdge). record e { label = hidden_label how name a.names e.label }) a.edges })
others_formed how name a formed =
    let without : LabelledEdge → LabelledEdge = λ e. record e { label = hidden_label how name a.names e.label } in
    let h : Automaton = record a { names = names_without name a.names; edges = map without a.edges } in
    record {
      names_differ = AllPairs-filter (λ p q. p ≡ q → ⊥) (λ other. not (same_text name other)) a.names formed.names_differ;
      starts_differ = formed.starts_differ;
      starts = formed.starts;
      in_order = subst IsNonDecreasing (sym (map-map (λ (e : LabelledEdge). e.from) without a.edges)) formed.in_order;
      edges = All-map (IsEdgeOf h) without a.edges
          (All-weaker (IsEdgeOf a) (λ e. IsEdgeOf h (without e))
          (λ e is. record { from = is.from; to = is.to; label = label_of_below (length (names_without name a.names)) _; marks = is.marks; marks_rise = is.marks_rise }) a.edges formed.edges);
      formula = formed.formula;
    }

pub hidden_formed : (how : Hide) (name : List ℕ) (a : Automaton) → IsWellFormed a → IsWellFormed (hidden how name a)
hidden_formed how name a formed = by_cases (is_among a.names name)
  where
    by_cases : (b : Bool)
        → IsWellFormed (if b then record a { names = names_without name a.names; edges = map (λ (e : LabelledEdge). record e { label = hidden_label how name a.names e.label }) a.edges } else a)
    by_cases true = others_formed how name a formed
    by_cases false = formed

-- ---- forms of the condition

pub disjunctive_formed : (a : Automaton) → IsWellFormed a → IsWellFormed (record a { formula = of_terms (terms a.formula) })
disjunctive_formed a formed = record {
  names_differ = formed.names_differ;
  starts_differ = formed.starts_differ;
  starts = formed.starts;
  in_order = formed.in_order;
  edges = All-weaker (IsEdgeOf a) (IsEdgeOf (record a { formula = of_terms (terms a.formula) }))
      (λ e is. record { from = is.from; to = is.to; label = is.label; marks = is.marks; marks_rise = is.marks_rise }) a.edges formed.edges;
  formula = of_terms_holds (SetsBelow a.sets) (below_parts a.sets) (terms a.formula) (terms_below a.sets a.formula formed.formula);
}

pub without_fin_formed : (a : Automaton) → IsWellFormed a → IsWellFormed (without_fin a)
without_fin_formed a formed = by_cases (has_fin a.formula)
  where
    by_cases : (b : Bool) → IsWellFormed (if b then copied a else a)
    by_cases true = copied_well_formed a formed
    by_cases false = formed

pub buchi_formed : (a : Automaton) → IsWellFormed a → IsWellFormed (buchi a)
buchi_formed a formed =
    let ws = watches a.formula in
    let room : (state : ℕ) → levels (watch_of a.states ws state) ≤ most_levels ws = λ state. room_of (most_levels ws) a.states ws (some_room ws) (room_in ws) state in
    elim (cases_Bool (is_generalised_buchi a.formula)) [
      | inl one ↦ subst IsWellFormed (sym (buchi_one a one)) (levelled_well_formed (most_levels ws) (watch_of a.states ws) a formed room)
      | inr more ↦ subst IsWellFormed (sym (buchi_copies a more)) (levelled_well_formed (most_levels ws) (watch_of a.states ws) (copied a) (copied_well_formed a formed) room)
    ]

pub pruned_formed : (a made : Automaton) → IsWellFormed a → IsPruned a made → IsWellFormed made
pruned_formed a made formed is = subst IsWellFormed (sym is.is) (between_formed a formed is.flags)

-- ---- trees

module _ (b : Automaton) (formed : IsWellFormed b) (trees : List (List Node)) (transitions : List Transition) (is : IsExplored same_nodes (tree_moves b) (start_tree b) trees transitions) where
  abbrev most : ℕ
  most = width trees

  abbrev parity : Automaton
  parity = parity_on trees transitions b

  one_mark : (m : ℕ) → m < parity.sets → All (λ mark. mark < parity.sets) (m ∷ [])
  one_mark m low zero d within = low
  one_mark m low (suc k) d within = absurd (omega (arith, within))

  tree_edge : (a : Transition) → Contains transitions a → IsEdgeOf parity (parity_edge b trees most a)
  tree_edge a there =
      let step = step_of b trees transitions is a there in
      record {
        from = step.inside;
        to = step.below;
        label = label_of_below (length b.names) _;
        marks = one_mark _ (priorities_are_below b.states most (class_moves b (tree_at trees a.from) (get_or (tree_classes b (tree_at trees a.from)) a.class [])) (tree_at trees a.from));
        marks_rise = λ i j d less within. absurd (omega (arith, less, within));
      }

  trees_formed : IsWellFormed parity
  trees_formed = record {
    names_differ = formed.names_differ;
    starts_differ = one_start;
    starts = only_first (length trees) (slice_get_within trees 0 (start_tree b) is.first);
    in_order = subst IsNonDecreasing (sym (map-map (λ (e : LabelledEdge). e.from) (parity_edge b trees most) transitions))
        (froms_rise transitions (transitions_rise (tree_moves b) same_nodes (start_tree b) trees transitions is));
    edges = All-map (IsEdgeOf parity) (parity_edge b trees most) transitions (each_there (λ a. IsEdgeOf parity (parity_edge b trees most a)) transitions tree_edge);
    formula = parity_below parity.sets (omega arith);
  }

pub tree_form_formed : (b made : Automaton) → IsWellFormed b → IsTreeForm b made → IsWellFormed made
tree_form_formed b made formed form = subst IsWellFormed (sym form.is) (trees_formed b formed form.trees form.transitions (explored_trees b form.trees form.transitions form.explored))

-- ---- sets of states

no_monitor : (b : Automaton) → IsWellFormed b → b.starts ≡ [] → IsWellFormed (monitor_on [] [] b)
no_monitor b formed none = record {
  names_differ = formed.names_differ;
  starts_differ = subst (λ (ss : List ℕ). AllPairs (λ p q. p ≡ q → ⊥) (first_places ss)) (sym none) (λ i j d less within. absurd (omega (arith, within)));
  starts = subst (λ (ss : List ℕ). All (λ p. p < 0) (first_places ss)) (sym none) (λ k d within. absurd (omega (arith, within)));
  in_order = froms_rise [] (λ i j d less within. absurd (omega (arith, within)));
  edges = λ k d within. absurd (omega (arith, within));
  formula = tt;
}

module _ (b : Automaton) (formed : IsWellFormed b) (sets : List (List ℕ)) (transitions : List Transition) (is : IsExplored (pointwise nat_eq) (subset_moves b) (start_set b) sets transitions) where
  abbrev monitor : Automaton
  monitor = monitor_on sets transitions b

  first_differ : (ss : List ℕ) → AllPairs (λ p q. p ≡ q → ⊥) (first_places ss)
  first_differ [] i j d less within = absurd (omega (arith, within))
  first_differ (s ∷ ss) i j d less within = absurd (omega (arith, less, within))

  first_within : (ss : List ℕ) → 0 < length sets → All (λ p. p < length sets) (first_places ss)
  first_within [] some k d within = absurd (omega (arith, within))
  first_within (s ∷ ss) some k d within = only_first (length sets) some k d within

  set_edge : (a : Transition) → Contains transitions a → IsEdgeOf monitor (monitor_edge b sets a)
  set_edge a there =
      let e = edge_from (subset_moves b) (pointwise nat_eq) (start_set b) sets transitions is a (there_at transitions a there) in
      record {
        from = slice_get_within sets a.from e.0 e.2;
        to = slice_get_within sets a.to e.1 e.5;
        label = label_of_below (length b.names) _;
        marks = λ k d within. absurd (omega (arith, within));
        marks_rise = λ i j d less within. absurd (omega (arith, within));
      }

  sets_formed : IsWellFormed monitor
  sets_formed = record {
    names_differ = formed.names_differ;
    starts_differ = first_differ b.starts;
    starts = first_within b.starts (slice_get_within sets 0 (start_set b) is.first);
    in_order = subst IsNonDecreasing (sym (map-map (λ (e : LabelledEdge). e.from) (monitor_edge b sets) transitions))
        (froms_rise transitions (transitions_rise (subset_moves b) (pointwise nat_eq) (start_set b) sets transitions is));
    edges = All-map (IsEdgeOf monitor) (monitor_edge b sets) transitions (each_there (λ a. IsEdgeOf monitor (monitor_edge b sets a)) transitions set_edge);
    formula = tt;
  }

pub subset_form_formed : (b made : Automaton) → IsWellFormed b → IsSubsetForm b made → IsWellFormed made
subset_form_formed b made formed form = subst IsWellFormed (sym form.is) (by_cases b.starts refl (explored_by b made form))
  where
    by_cases : (ss : List ℕ) → b.starts ≡ ss → IsExploredFrom b ss form.sets form.transitions → IsWellFormed (monitor_on form.sets form.transitions b)
    by_cases [] none are =
        subst (λ (xs : List (List ℕ)). IsWellFormed (monitor_on xs form.transitions b)) (sym are.0)
        (subst (λ (es : List Transition). IsWellFormed (monitor_on [] es b)) (sym are.1) (no_monitor b formed none))
    by_cases (s ∷ ss) some ends = sets_formed b formed form.sets form.transitions (explored_sets b form.sets form.transitions ends)
