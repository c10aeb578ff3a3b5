-- The automaton that is made of the trees and edges that were found.
use Rattle.std.proofs.Common.{◌≡◌, ◌∙◌, ◌+◌, ◌^◌, ◌<◌, ◌≤◌, ℕ, zero, suc, All, Contains, List, [], ◌∷◌, ap, arith, length, map, subst, sym}
use Rattle.std.proofs.lemmas.Option.{get_or_from_slice_get, slice_get_within}
use Rattle.acc_forms.specs.Parity.{parity_min_odd}
use Rattle.aut_base.proofs.lists.Members.{each_there}
use Rattle.aut_base.specs.declared.limit.TheConstants.{MOST_NODES, MOST_TREES}
use Rattle.aut_core.specs.SymbolicAutomata.{AreSymbolicParts, SymbolicAutomaton, IsWellFormedSymbolic, automaton_of}
use Rattle.exploration.specs.Explorations.{IsClassed, IsSound, transition_of}
use Rattle.exploration.specs.Reached.{IsExplored}
use Rattle.exploration.specs.declared.exploration.Edge.{Edge}
use Rattle.label_guards.specs.Store.{Keeps, Store}
use Rattle.label_guards.specs.declared.guard.Guard.{Guard}
use Rattle.letter_classes.proofs.ClassForms.{classed, edges_are, parts_are}
use Rattle.letter_classes.specs.ClassForms.{form_of, link_of}
use Rattle.letter_classes.specs.SetClasses.{FitsStore, IsClassGuard}
use Rattle.parity_det.proofs.Explored.{is_tree, within_width}
use Rattle.parity_det.proofs.Widths.{few_nodes, parity_below}
use Rattle.parity_det.proofs.TreeMoves.{start_tree}
use Rattle.parity_det.specs.Determinisation.{class_moves, parity_on, tree_moves, width}
use Rattle.safra_trees.specs.Same.{same_nodes}
use Rattle.parity_det.specs.inner.Systems.{IsClassEvent, mark_of}
use Rattle.parity_laws.specs.Determinised.{tree_at}
use Rattle.safra_laws.proofs.parity.First.{priority_by_first}
use Rattle.safra_laws.proofs.parity.Least.{priorities_are_below}
use Rattle.safra_laws.specs.Priorities.{priority}
use Rattle.safra_trees.specs.Step.{IsTree}
use Rattle.safra_trees.specs.Trees.{Node, root_states}
use Rattle.safra_trees.specs.declared.event.Event.{Event}

module _ (b : SymbolicAutomaton) (core : IsWellFormedSymbolic b) (s : Store) (keeps : Keeps b.store s) (trees : List (List Node)) (edges : List (Edge Guard Event))
    (is : IsExplored same_nodes (tree_moves (automaton_of b)) (start_tree (automaton_of b)) trees (map transition_of edges))
    (sound : IsSound (λ t. FitsStore b s (root_states t)) (λ t k g. IsClassGuard b s (root_states t) k g) (λ t k event. IsClassEvent b t k event) MOST_TREES trees edges) where
  abbrev most : ℕ
  most = width trees

  abbrev sets : ℕ
  sets = most + most + 1

  abbrev marks : Event → List ℕ
  marks event = mark_of most event ∷ []

  abbrev pub made : SymbolicAutomaton
  made = form_of b s (length trees) (map (link_of marks) edges) sets (parity_min_odd sets)

  abbrev Told : List Node → ℕ → Event → Type 0
  Told = IsClassEvent b

  abbrev IsFound : Edge Guard Event → Type 0
  IsFound = IsClassed (λ t k g. IsClassGuard b s (root_states t) k g) Told trees

  found : (e : Edge Guard Event) → Contains edges e → IsFound e
  found = classed root_states Told b core s keeps same_nodes (tree_moves (automaton_of b)) (start_tree (automaton_of b)) MOST_TREES trees edges is sound

  -- the mark of an edge is the priority of its step
  mark_is : (e : Edge Guard Event) → (c : IsFound e) → mark_of most e.output ≡ priority b.states most (class_moves (automaton_of b) c.state c.class.valuation) c.state
  mark_is e c =
      let t = c.state in
      let here : tree_at trees e.from ≡ t = get_or_from_slice_get trees e.from t [] c.at in
      let inside = slice_get_within trees e.from t c.at in
      let tree = subst IsTree here (is_tree (automaton_of b) trees (map transition_of edges) is e.from inside) in
      let few : length t ≤ most = subst (λ (u : List Node). length u ≤ most) here (within_width trees e.from inside) in
      ap (mark_of most) (c.output c.class.valuation c.class.at) ∙ sym (priority_by_first b.states most (class_moves (automaton_of b) t c.class.valuation) t tree few)

  mark_below : (e : Edge Guard Event) → Contains edges e → mark_of most e.output < sets
  mark_below e there =
      let c = found e there in
      let low = priorities_are_below b.states most (class_moves (automaton_of b) c.state c.class.valuation) c.state in
      omega (arith, low, mark_is e c)

  pub is_made : automaton_of made ≡ parity_on trees (map transition_of edges) (automaton_of b)
  is_made = λ j. record {
    names = b.names;
    starts = 0 ∷ [];
    states = length trees;
    edges = edges_are root_states Told b core s keeps same_nodes (tree_moves (automaton_of b)) (start_tree (automaton_of b)) MOST_TREES trees edges is sound
        marks [] (λ t v. priority b.states most (class_moves (automaton_of b) t v) t ∷ []) (λ e c. ap (λ (m : ℕ). m ∷ []) (mark_is e c)) j;
    sets = sets;
    formula = parity_min_odd sets;
  }

  pub are_parts : AreSymbolicParts made
  are_parts = parts_are root_states Told b core s keeps same_nodes (tree_moves (automaton_of b)) (start_tree (automaton_of b)) MOST_TREES trees edges is sound
      marks sets (parity_min_odd sets) (λ e there. only (mark_of most e.output) (mark_below e there)) (parity_below sets (omega arith))
    where
      only : (mark : ℕ) → mark < sets → All (λ m. m < sets) (mark ∷ [])
      only mark low zero d within = low
      only mark low (suc k) d within = absurd (omega (arith, within))

  pub few_sets : most ≤ MOST_NODES
  few_sets = few_nodes (automaton_of b) trees (map transition_of edges) is

  -- the bound as a number
  pub few_found : most ≤ 100
  few_found = few_sets

  pub marks_fit : All (λ e. mark_of most e.output < 2 ^ 32) edges
  marks_fit = each_there (λ e. mark_of most e.output < 2 ^ 32) edges (λ e there. (let low = mark_below e there in omega (arith, low, few_found)))
