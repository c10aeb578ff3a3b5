-- The subset construction makes a monitor, and a deterministic automaton.
use Rattle.std.proofs.Common.{◌≡◌, ◌∙◌, ◌<◌, ◌≤◌, ◌==◌, ◌&&◌, ℕ, Bool, true, false, Contains, List, [], ◌∷◌, Some, ap, arith, eq-eqb, get_or, length, refl, slice_get, subst, sym}
use Rattle.std.proofs.lemmas.Bool.{and_from, and_parts, eqb-true, true≢false}
use Rattle.std.proofs.lemmas.List.Elements.{All-contains}
use Rattle.std.proofs.lemmas.Option.{get_or_from_slice_get, slice_get-get_or, slice_get_within}
use Rattle.std.specs.List.{list_any, range_with_len}
use Rattle.aut_base.proofs.lists.Members.{any_found, any_from, first_there, from_filter, from_flat_map, from_map, none_there, placed_there, there_at, there_filter, there_flat_map, there_map}
use Rattle.aut_base.proofs.lists.Members.{there_range_zero}
use Rattle.aut_base.specs.Automaton.{Automaton, IsEdgeOf, IsWellFormed, LabelledEdge}
use Rattle.aut_base.specs.Label.{holds_at, truth}
use Rattle.aut_base.specs.Valuation.{holds_in, truth_on}
use Rattle.aut_base.specs.Word.{NameSet}
use Rattle.aut_core.specs.Deterministic.{IsDeterministic}
use Rattle.aut_core.specs.Surveys.{edges_from}
use Rattle.exploration.proofs.Edges.{transitions_rise, edge_for, edge_from}
use Rattle.exploration.specs.TransitionFunctions.{StepFailed, Successor, NoSuccessor, StepOutcome}
use Rattle.exploration.specs.Reached.{IsExplored}
use Rattle.exploration.specs.Turns.{Transition, EndsWith}
use Rattle.label_guards.proofs.alike.ClassLeastLaws.{alike_each}
use Rattle.label_guards.specs.ClassLeasts.{are_alike}
use Rattle.letter_classes.proofs.ClassEdges.{all_apart, class_meets, class_of, edge_alike}
use Rattle.letter_classes.specs.SetClasses.{set_classes, set_edges, set_labels}
use Rattle.monitor_form.specs.Monitors.{HasEdge, IsGoal, TracksSubsets, IsMove, first_places, set_at}
use Rattle.monitor_form.proofs.Explored.{IsExploredFrom, explored_by, is_goal, monitor_edge}
use Rattle.monitor_form.proofs.SubsetMoves.{some_set, subset_step, unless_empty}
use Rattle.monitor_form.specs.Subsets.{successor_set, monitor_on, start_set, subset_moves, subset_rules}
use Rattle.exploration.proofs.Finished.{explored_ends}
use Rattle.std.specs.Cmp.Lexicographic.{bytes_decides, pointwise}
use Rattle.std.specs.Prelude.{nat_eq}
use Rattle.monitor_form.specs.Subsets.{IsSubsetForm}

-- the set that a step gives

abbrev given : List ℕ → StepOutcome (List ℕ) → List ℕ
given d (Successor qs) = qs
given d NoSuccessor = d
given d StepFailed = d

abbrev is_gift : StepOutcome (List ℕ) → Bool
is_gift (Successor qs) = true
is_gift NoSuccessor = false
is_gift StepFailed = false

given_goals : (qs y : List ℕ) → unless_empty qs ≡ Successor y → (qs ≡ y) × ((q : ℕ) × Contains y q)
given_goals [] y e = absurd (true≢false (sym (ap is_gift e)))
given_goals (q ∷ qs) y e =
    let same : q ∷ qs ≡ y = ap (given []) (sym (some_set q qs) ∙ e) in
    (same, (q, subst (λ (zs : List ℕ). Contains zs q) same (first_there q qs)))

some_given : (qs : List ℕ) (q : ℕ) → Contains qs q → unless_empty qs ≡ Successor qs
some_given [] q there = absurd (none_there q there)
some_given (p ∷ qs) q there = some_set p qs

module _ (b : Automaton) (formed : IsWellFormed b) where
  -- the successors for a class are those at each letter in it
  module _ (states : List ℕ) (v : List Bool) (x : NameSet) (alike : are_alike (set_labels b states) (holds_in v) (holds_at b.names x) ≡ true) where
    same_label : (e : LabelledEdge) → Contains (set_edges b states) e → truth (holds_in v) e.label ≡ truth (holds_at b.names x) e.label
    same_label e there = alike_each (set_labels b states) (holds_in v) (holds_at b.names x) alike e.label (there_map (λ (d : LabelledEdge). d.label) (set_edges b states) e there)

    to_goal : (q : ℕ) → Contains (successor_set b states v) q → IsGoal b states x q
    to_goal q there =
        let reads : LabelledEdge → Bool = λ e. truth_on e.label v in
        let kept = from_filter (is_goal reads (set_edges b states)) (range_with_len 0 b.states) q there in
        let found = any_found (λ e. (e.to == q) && reads e) (set_edges b states) kept.1 in
        let parts = and_parts (found.0.to == q) (reads found.0) found.2 in
        let from = from_flat_map (λ p. edges_from p b.edges) states found.0 found.1 in
        let edge = from_filter (λ (e : LabelledEdge). e.from == from.0) b.edges found.0 from.2 in
        record {
          edge = found.0;
          there = edge.0;
          from = subst (Contains states) (sym (eqb-true found.0.from from.0 edge.1)) from.1;
          allowed = sym (same_label found.0 found.1) ∙ parts.1;
          to = eqb-true found.0.to q parts.0;
        }

    from_goal : (q : ℕ) → IsGoal b states x q → Contains (successor_set b states v) q
    from_goal q goal =
        let e = goal.edge in
        let reads : LabelledEdge → Bool = λ d. truth_on d.label v in
        let bounds = All-contains (IsEdgeOf b) b.edges e formed.edges goal.there in
        let leaves = there_filter (λ (d : LabelledEdge). d.from == e.from) b.edges e goal.there (eq-eqb e.from e.from refl) in
        let among = there_flat_map (λ p. edges_from p b.edges) states e.from e goal.from leaves in
        let passes = any_from (λ d. (d.to == q) && reads d) (set_edges b states) e among (and_from (e.to == q) (reads e) (eq-eqb e.to q goal.to) (same_label e among ∙ goal.allowed)) in
        let less : q < b.states = omega (arith, bounds.to, goal.to) in
        there_filter (is_goal reads (set_edges b states)) (range_with_len 0 b.states) q (there_range_zero b.states q less) passes

  -- the set of the starts
  to_start : (q : ℕ) → Contains (start_set b) q → Contains b.starts q
  to_start q there =
      let kept = from_filter (λ p. list_any (λ s. s == p) b.starts) (range_with_len 0 b.states) q there in
      let found = any_found (λ s. s == q) b.starts kept.1 in
      subst (Contains b.starts) (eqb-true found.0 q found.2) found.1

  from_start : (q : ℕ) → Contains b.starts q → Contains (start_set b) q
  from_start q there =
      there_filter (λ p. list_any (λ s. s == p) b.starts) (range_with_len 0 b.states) q (there_range_zero b.states q (All-contains (λ p. p < b.states) b.starts q formed.starts there))
      (any_from (λ s. s == q) b.starts q there (eq-eqb q q refl))

  module _ (sets : List (List ℕ)) (transitions : List Transition) (is : IsExplored (pointwise nat_eq) (subset_moves b) (start_set b) sets transitions) where
    abbrev classes_at : ℕ → List (List Bool)
    classes_at p = set_classes b (set_at sets p)

    -- the step of an edge that was found
    record StepOf (a : Transition) : Type 0 where
      inside : a.from < length sets
      below : a.to < length sets
      at : slice_get (classes_at a.from) a.class ≡ Some (get_or (classes_at a.from) a.class [])
      leads : successor_set b (set_at sets a.from) (get_or (classes_at a.from) a.class []) ≡ set_at sets a.to
      some : ℕ
      there : Contains (set_at sets a.to) some

    step_of : (a : Transition) → Contains transitions a → StepOf a
    step_of a there =
        let e = edge_from (subset_moves b) (pointwise nat_eq) (start_set b) sets transitions is a (there_at transitions a there) in
        let here : get_or sets a.from [] ≡ e.0 = get_or_from_slice_get sets a.from e.0 [] e.2 in
        let goes : get_or sets a.to [] ≡ e.1 = get_or_from_slice_get sets a.to e.1 [] e.5 in
        let less : a.class < length (classes_at a.from) = subst (λ (s : List ℕ). a.class < length (set_classes b s)) (sym here) e.3 in
        let at = slice_get-get_or (classes_at a.from) a.class [] less in
        let gives : subset_step b (set_at sets a.from) (slice_get (classes_at a.from) a.class) ≡ Successor e.1 =
        subst (λ (s : List ℕ). subset_step b s (slice_get (set_classes b s) a.class) ≡ Successor e.1)
        (sym here) e.4 in
        let found = given_goals (successor_set b (set_at sets a.from) (get_or (classes_at a.from) a.class [])) e.1 (sym (ap (subset_step b (set_at sets a.from)) at) ∙ gives) in
        record {
          inside = slice_get_within sets a.from e.0 e.2;
          below = slice_get_within sets a.to e.1 e.5;
          at = at;
          leads = found.0 ∙ sym goes;
          some = found.1.0;
          there = subst (λ (s : List ℕ). Contains s found.1.0) (sym goes) found.1.1;
        }

    abbrev no_marks : ℕ → List Bool → List ℕ
    no_marks place v = []

    transition_moves : (a : Transition) (x : NameSet) → Contains transitions a → truth (holds_at b.names x) (monitor_edge b sets a).label ≡ true → IsMove b sets x a.from a.to
    transition_moves a x there e =
        let step = step_of a there in
        let v = get_or (classes_at a.from) a.class [] in
        let alike = edge_alike b (set_at sets) no_marks a x e in
        record {
          below = step.below;
          goals = λ q. (
            λ inside. to_goal (set_at sets a.from) v x alike q (subst (λ (s : List ℕ). Contains s q) (sym step.leads) inside),
            λ goal. subst (λ (s : List ℕ). Contains s q) step.leads (from_goal (set_at sets a.from) v x alike q goal),
          );
          some = step.some;
          there = step.there;
        }

    has_edge : (i : ℕ) (x : NameSet) (q : ℕ) → i < length sets → IsGoal b (set_at sets i) x q → HasEdge (monitor_on sets transitions b) i x
    has_edge i x q inside goal =
        let class = class_of b (set_at sets) no_marks i x in
        let w = class.valuation in
        let among = from_goal (set_at sets i) w x class.alike q goal in
        let gives : subset_step b (set_at sets i) (slice_get (classes_at i) class.number) ≡ Successor (successor_set b (set_at sets i) w) = ap (subset_step b (set_at sets i)) class.at
        ∙ some_given (successor_set b (set_at sets i) w) q among in
        let edge = edge_for (subset_moves b) (pointwise nat_eq) (start_set b) sets transitions is i class.number (set_at sets i) (successor_set b (set_at sets i) w) (slice_get-get_or sets i [] inside)
        (slice_get_within (classes_at i) class.number w class.at) gives in
        let a = edge.0 in
        record {
          edge = monitor_edge b sets a;
          there = there_map (monitor_edge b sets) transitions a (placed_there transitions edge.1.0 a edge.1.1);
          from = edge.2;
          allowed = class_meets b (set_at sets) no_marks i x class a edge.2 edge.3;
        }

    pub is_monitor : TracksSubsets b (monitor_on sets transitions b) sets
    is_monitor = record {
      starts = refl;
      first = λ q. (
        λ there. to_start q (subst (λ (s : List ℕ). Contains s q) start_at there),
        λ there. subst (λ (s : List ℕ). Contains s q) (sym start_at) (from_start q there),
      );
      steps = λ e x there holds. (
          let from = from_map (monitor_edge b sets) transitions e there in
          subst (λ (d : LabelledEdge). IsMove b sets x d.from d.to) from.2 (transition_moves from.0 x from.1 (ap (λ (d : LabelledEdge). truth (holds_at b.names x) d.label) from.2 ∙ holds))
          );
      total = has_edge;
      formula = refl;
    }
      where
        start_at : set_at sets 0 ≡ start_set b
        start_at = get_or_from_slice_get sets 0 (start_set b) [] is.first

    few_places : (ss : List ℕ) → length (first_places ss) ≤ 1
    few_places [] = omega arith
    few_places (s ∷ ss) = omega arith

    pub is_deterministic : IsDeterministic (monitor_on sets transitions b)
    is_deterministic = record {
      start = few_places b.starts;
      edges = all_apart b (set_at sets) no_marks transitions (transitions_rise (subset_moves b) (pointwise nat_eq) (start_set b) sets transitions is)
          (λ a there. slice_get_within (classes_at a.from) a.class (get_or (classes_at a.from) a.class []) (step_of a there).at);
    }

pub explored_sets : (b : Automaton) (sets : List (List ℕ)) (transitions : List Transition) → EndsWith (subset_rules b) (start_set b) sets transitions
    → IsExplored (pointwise nat_eq) (subset_moves b) (start_set b) sets transitions
explored_sets b sets transitions e = explored_ends (subset_rules b) (λ x y. (bytes_decides x y).0) (λ x. (bytes_decides x x).1 refl) (start_set b) sets transitions e

no_states : (b : Automaton) → b.starts ≡ [] → TracksSubsets b (monitor_on [] [] b) []
no_states b none = record {
  starts = refl;
  first = λ q. (λ there. absurd (none_there q there), λ there. subst (λ (s : List ℕ). Contains s q) none there);
  steps = λ e x there holds. absurd (none_there e there);
  total = λ i x q inside goal. absurd (omega (arith, inside));
  formula = refl;
}

-- what the construction makes
pub record Formed (b made : Automaton) : Type 0 where
  pub sets : List (List ℕ)
  pub monitor : TracksSubsets b made sets
  pub deterministic : IsDeterministic made

pub formed_of : (b made : Automaton) → IsWellFormed b → IsSubsetForm b made → Formed b made
formed_of b made formed form = by_cases b.starts refl (explored_by b made form)
  where
    by_cases : (ss : List ℕ) → b.starts ≡ ss → IsExploredFrom b ss form.sets form.transitions → Formed b made
    by_cases [] none are = subst (Formed b) (sym form.is) (subst (λ (xs : List (List ℕ)). Formed b (monitor_on xs form.transitions b)) (sym are.0)
        (subst (λ (es : List Transition). Formed b (monitor_on [] es b)) (sym are.1) (record {
          sets = [];
          monitor = no_states b none;
          deterministic = record { start = subst (λ (ss : List ℕ). length (first_places ss) ≤ 1) (sym none) (omega arith); edges = λ i j d less within. absurd (omega (arith, within)) };
        })))
    by_cases (s ∷ ss) some ends =
        let is = explored_sets b form.sets form.transitions ends in
        subst (Formed b) (sym form.is) (record {
          sets = form.sets;
          monitor = is_monitor b formed form.sets form.transitions is;
          deterministic =
              is_deterministic b formed form.sets form.transitions is;
        })
