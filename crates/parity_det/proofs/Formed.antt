-- An automaton that is made by the exploration of trees is a determinised one.
use Rattle.std.proofs.Common.{◌≡◌, ◌∙◌, ◌<◌, ℕ, Bool, true, Contains, List, [], ◌∷◌, Some, ap, arith, inl, inr, length, refl, slice_get, subst, sym}
use Rattle.std.proofs.lemmas.Bool.{cases_lt}
use Rattle.std.proofs.lemmas.Option.{get_or_from_slice_get, slice_get-get_or, slice_get_within}
use Rattle.aut_base.proofs.lists.Members.{each_there, from_map, placed_there, there_map}
use Rattle.aut_base.specs.Automaton.{Automaton, LabelledEdge}
use Rattle.aut_base.specs.Word.{NameSet}
use Rattle.aut_base.specs.declared.limit.TheConstants.{MOST_NODES}
use Rattle.aut_core.specs.Deterministic.{HasSuccessor, IsComplete, IsDeterministic, is_met}
use Rattle.exploration.proofs.Edges.{transitions_rise, edge_for}
use Rattle.exploration.proofs.Finished.{explored_ends}
use Rattle.exploration.specs.TransitionFunctions.{StepFailed, Successor}
use Rattle.exploration.specs.Reached.{IsExplored}
use Rattle.exploration.specs.Turns.{Transition, EndsWith}
use Rattle.letter_classes.proofs.ClassEdges.{all_apart, class_meets, class_of, edge_alike}
use Rattle.parity_det.proofs.Widths.{wide}
use Rattle.parity_det.proofs.Explored.{class_at, is_tree, large_fails, same_root_moves, small_given, step_of, within_width}
use Rattle.parity_det.proofs.TreeMoves.{start_tree, tree_classes, tree_step_at}
use Rattle.parity_det.specs.Determinisation.{class_moves, parity_edge, parity_on, tree_moves, tree_rules, unless_large, width}
use Rattle.safra_trees.specs.Same.{same_nodes, same_tells}
use Rattle.parity_det.specs.Promises.{IsParityMinOdd}
use Rattle.parity_laws.specs.Buchi.{moves_at}
use Rattle.parity_laws.specs.Determinised.{TracksTrees, IsStepEdge, tree_at}
use Rattle.safra_laws.proofs.invariant.RootMoves.{root_moves_are_enough}
use Rattle.safra_laws.specs.Priorities.{priority}
use Rattle.safra_laws.specs.Rounds.{next_tree}
use Rattle.safra_trees.specs.Trees.{Node, root_states}

gives_of : (b : Automaton) (t : List Node) (v : List Bool) → (tree_step_at b t (Some v) ≡ StepFailed → ⊥) → tree_step_at b t (Some v) ≡ Successor (next_tree b.states (class_moves b t v) t)
gives_of b t v sure = by_cases (next_tree b.states (class_moves b t v) t) sure
  where
    by_cases : (y : List Node) → (unless_large y ≡ StepFailed → ⊥) → unless_large y ≡ Successor y
    by_cases y not_failing = elim (cases_lt MOST_NODES (length y)) [
      | inl many ↦ absurd (not_failing (large_fails y many))
      | inr few ↦ small_given y few
    ]

module _ (b : Automaton) (trees : List (List Node)) (transitions : List Transition) (is : IsExplored same_nodes (tree_moves b) (start_tree b) trees transitions) where
  abbrev n : ℕ
  n = length b.names

  abbrev made : Automaton
  made = parity_on trees transitions b

  abbrev set_of : ℕ → List ℕ
  set_of place = root_states (tree_at trees place)

  abbrev marks_of : ℕ → List Bool → List ℕ
  marks_of place v = priority b.states (width trees) (class_moves b (tree_at trees place) v) (tree_at trees place) ∷ []

  -- each edge is a step under the letters that meet it
  transition_steps : (a : Transition) (x : NameSet) → Contains transitions a → is_met b.names x (parity_edge b trees (width trees) a) ≡ true
      → IsStepEdge b trees (width trees) x (parity_edge b trees (width trees) a)
  transition_steps a x there e =
      let step = step_of b trees transitions is a there in
      let t = tree_at trees a.from in
      let v = class_at b trees transitions is a in
      let same = root_moves_are_enough b.states (width trees) (moves_at b x) (class_moves b t v) t
      (is_tree b trees transitions is a.from step.inside) (same_root_moves b t v x (edge_alike b set_of marks_of a x e)) in
      record { to = step.below; tree = sym step.leads ∙ sym same.0; marks = ap (λ (m : ℕ). m ∷ []) (sym same.1) }

  has_successor : (i : ℕ) → i < length trees → (x : NameSet) → HasSuccessor made i x
  has_successor i inside x =
      let t = tree_at trees i in
      let class = class_of b set_of marks_of i x in
      let w = class.valuation in
      let here = slice_get-get_or trees i [] inside in
      let counted = slice_get_within (tree_classes b t) class.number w class.at in
      let step : tree_step_at b t (slice_get (tree_classes b t) class.number) ≡ tree_step_at b t (Some w) = ap (tree_step_at b t) class.at in
      let gives = step ∙ gives_of b t w (λ failing. is.sure i class.number t here counted (step ∙ failing)) in
      let edge = edge_for (tree_moves b) same_nodes (start_tree b) trees transitions is i class.number t (next_tree b.states (class_moves b t w) t) here counted gives in
      let a = edge.0 in
      record {
        edge = parity_edge b trees (width trees) a;
        is_edge = there_map (parity_edge b trees (width trees)) transitions a (placed_there transitions edge.1.0 a edge.1.1);
        from = edge.2;
        meets = class_meets b set_of marks_of i x class a edge.2 edge.3;
      }

  deterministic : IsDeterministic made
  deterministic = record {
    start = omega arith;
    edges = all_apart b set_of marks_of transitions (transitions_rise (tree_moves b) same_nodes (start_tree b) trees transitions is)
        (λ a there. slice_get_within (tree_classes b (tree_at trees a.from)) a.class (class_at b trees transitions is a) (step_of b trees transitions is a there).at);
  }

  complete : IsComplete made
  complete = record { start = omega arith; edges = has_successor }

  pub is_determinised : TracksTrees b made trees (width trees)
  is_determinised = record {
    states = refl;
    starts = refl;
    some = slice_get_within trees 0 (start_tree b) is.first;
    first = get_or_from_slice_get trees 0 (start_tree b) [] is.first;
    few = within_width trees;
    steps = λ e x there holds. (
        let from = from_map (parity_edge b trees (width trees)) transitions e there in
        subst (IsStepEdge b trees (width trees) x) from.2 (transition_steps from.0 x from.1 (ap (is_met b.names x) from.2 ∙ holds))
        );
    deterministic = deterministic;
    complete = complete;
    formula = refl;
  }

  pub is_parity : IsParityMinOdd made
  is_parity = record {
    deterministic = deterministic;
    complete = complete;
    half = width trees;
    some = omega (arith, wide trees);
    sets = refl;
    formula = refl;
    marked = each_there (λ (e : LabelledEdge). length e.marks ≡ 1) made.edges (λ e there. (
        let from = from_map (parity_edge b trees (width trees)) transitions e there in ap (λ (d : LabelledEdge). length d.marks) (sym from.2)
        ));
  }

pub explored_trees : (b : Automaton) (trees : List (List Node)) (transitions : List Transition) → EndsWith (tree_rules b) (start_tree b) trees transitions
    → IsExplored same_nodes (tree_moves b) (start_tree b) trees transitions
explored_trees b trees transitions e = explored_ends (tree_rules b) (λ x y is. (same_tells x y).0 is) (λ x. (same_tells x x).1 refl) (start_tree b) trees transitions e
