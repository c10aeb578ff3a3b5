-- The trees that an exploration finds, and the steps between them.
use Rattle.std.proofs.Common.{◌≡◌, ◌∙◌, ◌<◌, ◌≤◌, ◌==◌, ℕ, suc, zero, Bool, true, false, cond, Contains, List, [], ◌∷◌, None, Option, Some, ap, arith}
use Rattle.std.proofs.Common.{eq-eqb, get_or, leb, length, refl, slice_get, subst, sym}
use Rattle.std.proofs.lemmas.Bool.{eqb-true, leb-false, leb-true, true≢false}
use Rattle.std.proofs.lemmas.Option.{get_or_from_slice_get, slice_get-get_or, slice_get_within}
use Rattle.aut_base.proofs.lists.Members.{any_found, from_filter, from_flat_map, from_map, there_filter, there_flat_map, there_map, there_at}
use Rattle.aut_base.specs.Automaton.{Automaton, LabelledEdge}
use Rattle.aut_base.specs.Label.{holds_at, truth}
use Rattle.aut_base.specs.Valuation.{holds_in, truth_on}
use Rattle.aut_base.specs.Word.{NameSet}
use Rattle.aut_base.specs.declared.limit.TheConstants.{MOST_NODES}
use Rattle.aut_core.specs.Surveys.{edges_from}
use Rattle.exploration.proofs.Edges.{edge_from}
use Rattle.exploration.specs.TransitionFunctions.{StepFailed, Successor, NoSuccessor, StepOutcome}
use Rattle.exploration.specs.Reached.{IsExplored, IsReached, LeadsTo}
use Rattle.exploration.specs.Turns.{Transition}
use Rattle.label_guards.proofs.alike.ClassLeastLaws.{alike_each}
use Rattle.label_guards.specs.ClassLeasts.{are_alike}
use Rattle.letter_classes.specs.SetClasses.{set_edges, set_labels}
use Rattle.parity_det.proofs.TreeMoves.{start_tree, tree_classes, tree_step_at}
use Rattle.parity_det.specs.Determinisation.{class_moves, tree_moves, unless_large, width}
use Rattle.safra_trees.specs.Same.{same_nodes}
use Rattle.parity_laws.proofs.letters.Moves.{edge_of, move_there}
use Rattle.parity_laws.specs.Buchi.{move_of, moves_at}
use Rattle.parity_laws.specs.Determinised.{tree_at}
use Rattle.safra_laws.proofs.TreesAfter.{steps_keep_trees}
use Rattle.safra_laws.proofs.invariant.FirstTree.{first_is_tree}
use Rattle.safra_laws.specs.Rounds.{next_tree}
use Rattle.safra_laws.specs.Trees.{SameRootMoves}
use Rattle.safra_trees.specs.Step.{IsTree}
use Rattle.safra_trees.specs.Trees.{Node, holds, root_states}
use Rattle.safra_trees.specs.declared.moves.Move as moves

-- ---- the result of a step

abbrev gift : List Node → StepOutcome (List Node) → List Node
gift d (Successor t) = t
gift d NoSuccessor = d
gift d StepFailed = d

abbrev is_gift : StepOutcome (List Node) → Bool
is_gift (Successor t) = true
is_gift NoSuccessor = false
is_gift StepFailed = false

given_small : (t y : List Node) → unless_large t ≡ Successor y → (t ≡ y) × (length t ≤ MOST_NODES)
given_small t y e = by_cases (leb (length t) MOST_NODES) refl e
  where
    by_cases : (b : Bool) → leb (length t) MOST_NODES ≡ b → cond b (Successor t) StepFailed ≡ Successor y → (t ≡ y) × (length t ≤ MOST_NODES)
    by_cases true small f = (ap (gift []) f, leb-true (length t) MOST_NODES small)
    by_cases false large f = absurd (true≢false (sym (ap is_gift f)))

pub small_given : (t : List Node) → length t ≤ MOST_NODES → unless_large t ≡ Successor t
small_given t few = by_cases (leb (length t) MOST_NODES) refl
  where
    by_cases : (b : Bool) → leb (length t) MOST_NODES ≡ b → cond b (Successor t) StepFailed ≡ Successor t
    by_cases true small = refl
    by_cases false large = (let over = leb-false (length t) MOST_NODES large in absurd (omega (arith, over, few)))

abbrev fails : StepOutcome (List Node)
fails = StepFailed

pub large_fails : (t : List Node) → MOST_NODES < length t → unless_large t ≡ fails
large_fails t many = by_cases (leb (length t) MOST_NODES) refl
  where
    by_cases : (b : Bool) → leb (length t) MOST_NODES ≡ b → cond b (Successor t) fails ≡ fails
    by_cases true small = (let few = leb-true (length t) MOST_NODES small in absurd (omega (arith, few, many)))
    by_cases false large = refl

-- a step with a successor is the step for some class
pub record StepGiven (b : Automaton) (t : List Node) (o : Option (List Bool)) (y : List Node) : Type 0 where
  pub valuation : List Bool
  pub at : o ≡ Some valuation
  pub is : next_tree b.states (class_moves b t valuation) t ≡ y
  pub few : length y ≤ MOST_NODES

pub step_given : (b : Automaton) (t : List Node) (o : Option (List Bool)) (y : List Node) → tree_step_at b t o ≡ Successor y → StepGiven b t o y
step_given b t None y e = absurd (true≢false (sym (ap is_gift e)))
step_given b t (Some v) y e =
    let given = given_small (next_tree b.states (class_moves b t v) t) y e in
    record { valuation = v; at = refl; is = given.0; few = subst (λ (x : List Node). length x ≤ MOST_NODES) given.0 given.1 }

-- ---- the moves of a class are those of each letter in it

root_there : (t : List Node) (s : ℕ) → holds t 0 s ≡ true → Contains (root_states t) s
root_there t s h = let found = any_found (λ x. x == s) (root_states t) h in subst (Contains (root_states t)) (eqb-true found.0 s found.2) found.1

pub same_root_moves : (b : Automaton) (t : List Node) (v : List Bool) (x : NameSet)
    → are_alike (set_labels b (root_states t)) (holds_in v) (holds_at b.names x) ≡ true → SameRootMoves (moves_at b x) (class_moves b t v) t
same_root_moves b t v x alike m h =
    let edges = set_edges b (root_states t) in
    let passes : LabelledEdge → Bool = λ e. truth_on e.label v in
    let same : (e : LabelledEdge) → Contains edges e → truth (holds_in v) e.label ≡ truth (holds_at b.names x) e.label = λ e there.
    alike_each (set_labels b (root_states t)) (holds_in v) (holds_at b.names x) alike e.label (there_map (λ (d : LabelledEdge). d.label) edges e there) in (
      (λ there. (
          let e = edge_of b x m there in
          let from = root_there t e.edge.from (ap (λ (w : moves.Move). holds t 0 w.from) e.is ∙ h) in
          let leaves = there_filter (λ (d : LabelledEdge). d.from == e.edge.from) b.edges e.edge e.there (eq-eqb e.edge.from e.edge.from refl) in
          let among = there_flat_map (λ q. edges_from q b.edges) (root_states t) e.edge.from e.edge from leaves in
          subst (Contains (class_moves b t v)) e.is (there_map move_of _ e.edge (there_filter passes edges e.edge among (same e.edge among ∙ e.meets))))),
      (λ there. (
          let found = from_map move_of _ m there in
          let kept = from_filter passes edges found.0 found.1 in
          let place = from_flat_map (λ q. edges_from q b.edges) (root_states t) found.0 kept.0 in
          let edge = from_filter (λ (d : LabelledEdge). d.from == place.0) b.edges found.0 place.2 in
          subst (Contains (moves_at b x)) found.2 (move_there b x found.0 edge.0 (sym (same found.0 kept.0) ∙ kept.1)))),
    )

-- ---- the trees that are found

module _ (b : Automaton) where
  leads_tree : (ks : List ℕ) (x y : List Node) → IsTree x → LeadsTo (tree_moves b) x ks y → IsTree y
  leads_tree [] x y tree e = subst IsTree e tree
  leads_tree (k ∷ ks) x y tree path_edges =
      let step = step_given b x (slice_get (tree_classes b x) k) path_edges.1 path_edges.2 in
      leads_tree ks path_edges.1 y (subst IsTree step.is (steps_keep_trees b.states (class_moves b x step.valuation) x tree)) path_edges.3

  pub reached_tree : (y : List Node) → IsReached (tree_moves b) (start_tree b) y → IsTree y
  reached_tree y reached = leads_tree reached.word (start_tree b) y (first_is_tree b.states b.starts) reached.leads

  module _ (trees : List (List Node)) (transitions : List Transition) (is : IsExplored same_nodes (tree_moves b) (start_tree b) trees transitions) where
    pub is_tree : (i : ℕ) → i < length trees → IsTree (tree_at trees i)
    is_tree i inside = reached_tree (tree_at trees i) (is.reached i (tree_at trees i) (slice_get-get_or trees i [] inside))

    abbrev pub classes_at : ℕ → List (List Bool)
    classes_at p = tree_classes b (tree_at trees p)

    abbrev pub class_at : Transition → List Bool
    class_at a = get_or (classes_at a.from) a.class []

    -- the step of an edge that was found
    pub record StepOf (a : Transition) : Type 0 where
      pub inside : a.from < length trees
      pub below : a.to < length trees
      pub at : slice_get (classes_at a.from) a.class ≡ Some (class_at a)
      pub leads : next_tree b.states (class_moves b (tree_at trees a.from) (class_at a)) (tree_at trees a.from) ≡ tree_at trees a.to

    pub step_of : (a : Transition) → Contains transitions a → StepOf a
    step_of a there =
        let e = edge_from (tree_moves b) same_nodes (start_tree b) trees transitions is a (there_at transitions a there) in
        let here : get_or trees a.from [] ≡ e.0 = get_or_from_slice_get trees a.from e.0 [] e.2 in
        let goes : get_or trees a.to [] ≡ e.1 = get_or_from_slice_get trees a.to e.1 [] e.5 in
        let gives : tree_step_at b (tree_at trees a.from) (slice_get (classes_at a.from) a.class) ≡ Successor e.1 =
        subst (λ (t : List Node). tree_step_at b t (slice_get (tree_classes b t) a.class) ≡ Successor e.1) (sym here) e.4 in
        let step = step_given b (tree_at trees a.from) (slice_get (classes_at a.from) a.class) e.1 gives in
        let read : class_at a ≡ step.valuation = get_or_from_slice_get (classes_at a.from) a.class step.valuation [] step.at in
        record {
          inside = slice_get_within trees a.from e.0 e.2;
          below = slice_get_within trees a.to e.1 e.5;
          at = step.at ∙ ap Some (sym read);
          leads = ap (λ (v : List Bool). next_tree b.states (class_moves b (tree_at trees a.from) v) (tree_at trees a.from)) read ∙ (step.is ∙ sym goes);
        }

-- no tree has more nodes than the widest
pub within_width : (trees : List (List Node)) (i : ℕ) → i < length trees → length (tree_at trees i) ≤ width trees
within_width [] i inside = absurd (omega (arith, inside))
within_width (t ∷ ts) zero inside = omega arith
within_width (t ∷ ts) (suc i) inside = (let rest = within_width ts i (omega (arith, inside)) in omega (arith, rest))
