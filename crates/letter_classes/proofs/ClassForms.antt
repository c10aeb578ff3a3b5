-- The automaton made of explored states and edges has the edges of its definition, and its parts fit together.
use Rattle.std.proofs.Common.{◌≡◌, ◌∙◌, ◌<◌, ℕ, zero, suc, All, Bool, Contains, List, [], ◌∷◌, ap, arith, get_or, length, map, subst, sym}
use Rattle.std.proofs.lemmas.List.Elements.{All-contains, All-map}
use Rattle.std.proofs.lemmas.Option.{get_or_from_slice_get, slice_get_within}
use Rattle.std.proofs.lemmas.Simd.{map-map}
use Rattle.std.specs.List.Sorted.{IsNonDecreasing}
use Rattle.aut_base.proofs.lists.Members.{each_there, there_at, there_map, map_alike}
use Rattle.aut_base.specs.Formula.{FormulaTree, SetsBelow}
use Rattle.aut_core.specs.SymbolicAutomata.{AreSymbolicParts, SymbolicAutomaton, IsWellFormedSymbolic, IsLinkOf, automaton_of, edge_of}
use Rattle.aut_core.specs.declared.link.Link.{Link}
use Rattle.exploration.proofs.Edges.{transitions_rise, edge_from}
use Rattle.exploration.proofs.InOrder.{froms_rise}
use Rattle.exploration.specs.Explorations.{IsClassed, IsSound, transition_of}
use Rattle.exploration.specs.TransitionFunctions.{TransitionFunction}
use Rattle.exploration.specs.Reached.{IsExplored}
use Rattle.exploration.specs.Turns.{Transition}
use Rattle.exploration.specs.declared.exploration.Edge.{Edge}
use Rattle.label_guards.specs.Store.{Keeps, Store}
use Rattle.label_guards.specs.declared.guard.Guard.{Guard}
use Rattle.letter_classes.proofs.ClassEdges.{class_at}
use Rattle.letter_classes.specs.ClassForms.{class_edge, form_of, link_of}
use Rattle.letter_classes.specs.SetClasses.{FitsStore, IsClassGuard, class_label, set_classes, set_labels}

-- States and edges that were explored over an automaton b: `root` has the set of each state, and `told` says which outputs a step has.
module _ {X N : Type 0} (root : X → List ℕ) (told : X → ℕ → N → Type 0) (b : SymbolicAutomaton) (core : IsWellFormedSymbolic b) (s : Store) (keeps : Keeps b.store s)
    (same : X → X → Bool) (moves : TransitionFunction X) (start : X) (most : ℕ) (states : List X) (edges : List (Edge Guard N))
    (is : IsExplored same moves start states (map transition_of edges))
    (sound : IsSound (λ x. FitsStore b s (root x)) (λ x k g. IsClassGuard b s (root x) k g) told most states edges) where
  abbrev pub Classed : Edge Guard N → Type 0
  Classed e = IsClassed (λ x k g. IsClassGuard b s (root x) k g) told states e

  pub classed : (e : Edge Guard N) → Contains edges e → Classed e
  classed e there = All-contains Classed edges e sound.classed there

  pub some_state : 0 < length states
  some_state = slice_get_within states 0 start is.first

  to_within : (a : Transition) → Contains (map transition_of edges) a → a.to < length states
  to_within a among = let f = edge_from moves same start states (map transition_of edges) is a (there_at (map transition_of edges) a among) in slice_get_within states a.to f.1 f.5

  -- the edges, where the marks of each are those of its step
  module _ (marks : N → List ℕ) (d : X) (marks_of : X → List Bool → List ℕ) (marked : (e : Edge Guard N) → (c : Classed e) → marks e.output ≡ marks_of c.state c.class.valuation) where
    edge_is : (e : Edge Guard N) → Contains edges e
        → edge_of s (link_of marks e) ≡ class_edge (automaton_of b) (λ i. root (get_or states i d)) (λ i. marks_of (get_or states i d)) (transition_of e)
    edge_is e there =
        let a = automaton_of b in
        let c = classed e there in
        let here : c.state ≡ get_or states e.from d = sym (get_or_from_slice_get states e.from c.state d c.at) in
        let read : c.class.valuation ≡ class_at a (root c.state) e.number = sym (get_or_from_slice_get (set_classes a (root c.state)) e.number c.class.valuation [] c.class.at) in
        let label = c.class.label ∙ ap (class_label (length b.names) (set_labels a (root c.state))) read in
        let mark = marked e c ∙ ap (marks_of c.state) read in
        let first : edge_of s (link_of marks e) ≡ class_edge a (λ i. root c.state) (λ i. marks_of c.state) (transition_of e) =
        λ j. record { from = e.from; label = label j; to = e.to; marks = mark j } in
        first ∙ ap (λ (x : X). class_edge a (λ i. root x) (λ i. marks_of x) (transition_of e)) here

    pub edges_are : map (edge_of s) (map (link_of marks) edges) ≡ map (class_edge (automaton_of b) (λ i. root (get_or states i d)) (λ i. marks_of (get_or states i d))) (map transition_of edges)
    edges_are =
        let made = class_edge (automaton_of b) (λ i. root (get_or states i d)) (λ i. marks_of (get_or states i d)) in
        map-map (edge_of s) (link_of marks) edges ∙ (map_alike (λ e. edge_of s (link_of marks e)) (λ e. made (transition_of e)) edges edge_is ∙ sym (map-map made transition_of edges))

  -- the parts, where the marks of each edge are below the number of sets
  module _ (marks : N → List ℕ) (sets : ℕ) (formula : FormulaTree) (low : (e : Edge Guard N) → Contains edges e → All (λ m. m < sets) (marks e.output)) (below : SetsBelow sets formula) where
    abbrev made : SymbolicAutomaton
    made = form_of b s (length states) (map (link_of marks) edges) sets formula

    link_is : (e : Edge Guard N) → Contains edges e → IsLinkOf made (link_of marks e)
    link_is e there =
        let c = classed e there in
        record { from = slice_get_within states e.from c.state c.at; guard = c.class.has; to = to_within (transition_of e) (there_map transition_of edges e there); marks = low e there }

    pub parts_are : AreSymbolicParts made
    parts_are = record {
      few = core.parts.few;
      store_names = keeps.names ∙ core.parts.store_names;
      starts_differ = λ i j d less within. absurd (omega (arith, less, within));
      starts = first_only;
      in_order = subst IsNonDecreasing (map-map (λ (a : Transition). a.from) transition_of edges ∙ sym (map-map (λ (l : Link). l.from) (link_of marks) edges))
          (froms_rise (map transition_of edges) (transitions_rise moves same start states (map transition_of edges) is));
      links = All-map (IsLinkOf made) (link_of marks) edges (each_there (λ e. IsLinkOf made (link_of marks e)) edges link_is);
      formula = below;
    }
      where
        first_only : (k d : ℕ) → k < length {A = ℕ} (0 ∷ []) → get_or {A = ℕ} (0 ∷ []) k d < length states
        first_only zero d within = some_state
        first_only (suc k) d within = absurd (omega (arith, within))
