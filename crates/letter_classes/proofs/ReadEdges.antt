-- The parts of the edges that a valuation satisfies, collected link by link and state by state.
use Rattle.std.proofs.Common.{◌≡◌, ◌∙◌, ◌+◌, ◌≤◌, ◌==◌, ℕ, Bool, List, ◌++◌, Some, ap, filter, length, map, slice_get, sym, take}
use Rattle.std.proofs.lemmas.List.{map-append, take_all}
use Rattle.std.proofs.lemmas.List.Elements.{filter-append}
use Rattle.aut_base.proofs.order.Ordered.{filter_map_of}
use Rattle.aut_base.specs.Automaton.{Automaton, LabelledEdge}
use Rattle.aut_core.specs.SymbolicAutomata.{SymbolicAutomaton, automaton_of, edge_of}
use Rattle.aut_core.specs.Surveys.{edges_from}
use Rattle.aut_core.specs.declared.link.Link.{Link}
use Rattle.letter_classes.proofs.SetGuards.{set_edges_on}
use Rattle.letter_classes.specs.SetClasses.{set_edges}
use Rattle.letter_classes.specs.Taken.{taken_of}

module _ {A : Type 0} (part : LabelledEdge → A) (reads : LabelledEdge → Bool) where
  abbrev pub of_links : SymbolicAutomaton → List Link → List A
  of_links c ls = taken_of part reads (map (edge_of c.store) ls)

  taken_join : (es fs : List LabelledEdge) → taken_of part reads (es ++ fs) ≡ taken_of part reads es ++ taken_of part reads fs
  taken_join es fs = ap (map part) (filter-append reads es fs) ∙ map-append part (filter reads es) (filter reads fs)

  pub all_links : (c : SymbolicAutomaton) (state i : ℕ) (row : List Link) (old new : List A) → row ≡ filter (λ l. l.from == state) c.links → length row ≤ i → new ≡ old ++ of_links c (take i row)
      → new ≡ old ++ taken_of part reads (edges_from state (automaton_of c).edges)
  all_links c state i row old new e all so =
      so ∙ ap (λ es. old ++ taken_of part reads es) (ap (map (edge_of c.store)) (take_all i row all ∙ e) ∙ sym (filter_map_of (λ (e : LabelledEdge). e.from == state) (edge_of c.store) c.links))

  -- once the edges of another state are added
  pub state_more : (b : Automaton) (set : List ℕ) (k state : ℕ) (now new : List A) → slice_get set k ≡ Some state → now ≡ taken_of part reads (set_edges b (take k set))
      → new ≡ now ++ taken_of part reads (edges_from state b.edges)
      → new ≡ taken_of part reads (set_edges b (take (k + 1) set))
  state_more b set k state now new at so e =
      e ∙ (ap (λ ps. ps ++ taken_of part reads (edges_from state b.edges)) so
      ∙ (sym (taken_join (set_edges b (take k set)) (edges_from state b.edges)) ∙ ap (taken_of part reads) (set_edges_on b set k state at)))

  pub all_states : (b : Automaton) (set : List ℕ) (k : ℕ) (new : List A) → length set ≤ k → new ≡ taken_of part reads (set_edges b (take k set)) → new ≡ taken_of part reads (set_edges b set)
  all_states b set k new all so = so ∙ ap (λ qs. taken_of part reads (set_edges b qs)) (take_all k set all)
