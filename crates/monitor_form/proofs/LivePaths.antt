-- Why the states of a pruned automaton are live: walks in the graph are paths over words, since each label that isn't false
-- is true at some letter.
use Rattle.std.proofs.Common.{◌≡◌, ◌∙◌, ◌<◌, ◌&&◌, ℕ, Bool, true, false, not, List, [], ◌∷◌, Contains, ap, arith, length, map, refl, subst, sym}
use Rattle.std.proofs.lemmas.Bool.{and_from, and_parts, or_left}
use Rattle.std.proofs.lemmas.List.Elements.{All-contains}
use Rattle.std.specs.List.{list_any}
use Rattle.aut_base.proofs.lists.Members.{from_filter, from_map, there_filter, there_map}
use Rattle.aut_base.proofs.numbers.Truth.{not_not}
use Rattle.aut_base.specs.Acceptance.{IsPath}
use Rattle.aut_base.specs.Automaton.{Automaton, IsEdgeOf, IsWellFormed, LabelledEdge}
use Rattle.aut_base.specs.Formula.{Inf, met}
use Rattle.aut_base.specs.Label.{holds_at, truth}
use Rattle.aut_base.specs.Marks.{is_in}
use Rattle.aut_base.specs.Valuation.{letter_of}
use Rattle.aut_base.specs.Word.{NameSet}
use Rattle.aut_ops.proofs.links.Labels.{some_letter}
use Rattle.aut_ops.specs.Labels.{is_never}
use Rattle.aut_ops.specs.Satisfiable.{between, is_flagged, is_satisfiable, passable_arcs, satisfiable_edges}
use Rattle.aut_ops.specs.inner.Parts.{arc_of, is_kept_edge}
use Rattle.aut_ops.specs.Pruning.{AreUseful, IsMarkedOnCycle, IsUseful}
use Rattle.graph_walk.proofs.WalkLemmas.{reach_then}
use Rattle.graph_walk.specs.Reach.{ReachedFrom}
use Rattle.graph_walk.specs.Walk.{IsWalk, Reaches}
use Rattle.monitor_form.specs.Monitors.{AreLive, IsLive, PrunedAreLive}

module _ (a : Automaton) (formed : IsWellFormed a) (flags : List Bool) (are : AreUseful a flags) where
  abbrev made : Automaton
  made = between flags a

  -- a letter that meets the edge
  record Allowed (e : LabelledEdge) : Type 0 where
    letter : NameSet
    holds : truth (holds_at a.names letter) e.label ≡ true

  allowed : (e : LabelledEdge) → Contains (satisfiable_edges a) e → Allowed e
  allowed e there =
      let parts = from_filter (is_satisfiable (length a.names)) a.edges e there in
      let never : is_never (length a.names) e.label ≡ false = not_not (is_never (length a.names) e.label) ∙ ap not parts.1 in
      let edge = All-contains (IsEdgeOf a) a.edges e formed.edges parts.0 in
      let found = some_letter a.names e.label formed.names_differ edge.label never in
      record { letter = letter_of a.names found.0; holds = found.1 }

  edge_of : (e : LabelledEdge) → Contains (satisfiable_edges a) e → IsEdgeOf a e
  edge_of e there = All-contains (IsEdgeOf a) a.edges e formed.edges (from_filter (is_satisfiable (length a.names)) a.edges e there).0

  flagged : (q : ℕ) → q < a.states → IsUseful a q → is_flagged flags q ≡ true
  flagged q within useful = (are.exact q within).1 useful

  reached_more : (p q : ℕ) → ReachedFrom (passable_arcs a) a.starts p → Reaches (passable_arcs a) p q → ReachedFrom (passable_arcs a) a.starts q
  reached_more p q reached more = record { start = reached.start; listed = reached.listed; reached = reach_then (passable_arcs a) reached.start p q reached.reached more }

  record Path (p q : ℕ) : Type 0 where
    word : List NameSet
    path_edges : List LabelledEdge
    leads : IsPath made p word path_edges q

  module _ (edge : LabelledEdge) (on : IsMarkedOnCycle a edge) where
    -- an edge to a state from which the marked edge is reached is kept
    kept : (p : ℕ) (e : LabelledEdge) → Contains (satisfiable_edges a) e → p ≡ e.from → ReachedFrom (passable_arcs a) a.starts p → Reaches (passable_arcs a) e.to edge.from → Contains made.edges e
    kept p e there from reached after =
        let bounds = edge_of e there in
        let parts = from_filter (is_satisfiable (length a.names)) a.edges e there in
        let step : Reaches (passable_arcs a) e.from e.to = edge_step e there in
        let reached_e = subst (λ r. ReachedFrom (passable_arcs a) a.starts r) from reached in
        let begins = flagged e.from bounds.from (record { reached = reached_e; edge = edge; on_cycle = on; leads = reach_then (passable_arcs a) e.from e.to edge.from step after }) in
        let ends = flagged e.to bounds.to (record { reached = reached_more e.from e.to reached_e step; edge = edge; on_cycle = on; leads = after }) in
        let stay = and_from (is_satisfiable (length a.names) e) (is_flagged flags e.from && is_flagged flags e.to) parts.1 (and_from (is_flagged flags e.from) (is_flagged flags e.to) begins ends) in
        there_filter (is_kept_edge (length a.names) flags) a.edges e parts.0 stay
      where
        edge_step : (e : LabelledEdge) → Contains (satisfiable_edges a) e → Reaches (passable_arcs a) e.from e.to
        edge_step e there = record { walk = arc_of e ∷ []; leads = (there_map arc_of (satisfiable_edges a) e there, refl, refl) }

    walked : (p q : ℕ) (walk : List (ℕ × ℕ)) → ReachedFrom (passable_arcs a) a.starts p → IsWalk (passable_arcs a) p walk q → Reaches (passable_arcs a) q edge.from → Path p q
    walked p q [] reached leads after = record { word = []; path_edges = []; leads = leads }
    walked p q (arc ∷ walk) reached leads after =
        let found = from_map arc_of (satisfiable_edges a) arc leads.0 in
        let e = found.0 in
        let to : arc.1 ≡ e.to = sym (ap (λ (x : ℕ × ℕ). x.1) found.2) in
        let from : p ≡ e.from = sym (ap (λ (x : ℕ × ℕ). x.0) found.2 ∙ leads.1) in
        let next = subst (λ r. IsWalk (passable_arcs a) r walk q) to leads.2 in
        let first : Reaches (passable_arcs a) p e.to = record { walk = arc ∷ []; leads = (leads.0, leads.1, to) } in
        let rest = walked e.to q walk (reached_more p e.to reached first) next after in
        let one = allowed e found.1 in
        let there = kept p e found.1 from reached (reach_then (passable_arcs a) e.to q edge.from (record { walk = walk; leads = next }) after) in
        record { word = one.letter ∷ rest.word; path_edges = e ∷ rest.path_edges; leads = (from, there, one.holds, rest.leads) }

  useful_live : (q : ℕ) → IsUseful a q → a.formula ≡ Inf 0 false → IsLive made q
  useful_live q useful condition =
      let e = useful.edge in
      let on = useful.on_cycle in
      let none : Reaches (passable_arcs a) e.from e.from = record { walk = []; leads = refl } in
      let stem = walked e on q e.from useful.leads.walk useful.reached useful.leads.leads none in
      let there = reached_more q e.from useful.reached useful.leads in
      let step : Reaches (passable_arcs a) e.from e.to = record { walk = arc_of e ∷ []; leads = (there_map arc_of (satisfiable_edges a) e on.is_edge, refl, refl) } in
      let back = walked e on e.to e.from on.closes.walk (reached_more e.from e.to there step) on.closes.leads none in
      let one = allowed e on.is_edge in
      let is_kept = kept e on e.from e on.is_edge refl there on.closes in
      record {
        stem = stem.word;
        round = one.letter ∷ back.word;
        some = omega arith;
        state = e.from;
        path_edges = stem.path_edges;
        cycle = e ∷ back.path_edges;
        leads = stem.leads;
        returns = (refl, is_kept, one.holds, back.leads);
        meets = ap (met (map (λ (d : LabelledEdge). d.marks) (e ∷ back.path_edges))) condition
            ∙ or_left (is_in 0 e.marks) (list_any (is_in 0) (map (λ (d : LabelledEdge). d.marks) back.path_edges)) on.marked;
      }

  between_live : a.formula ≡ Inf 0 false → AreLive made
  between_live condition = record {
    starts = λ s there. (let parts = from_filter (is_flagged flags) a.starts s there in
        useful_live s ((are.exact s (All-contains (λ p. p < a.states) a.starts s formed.starts parts.0)).0 parts.1) condition);
    ends = λ e there. (let parts = from_filter (is_kept_edge (length a.names) flags) a.edges e there in
        let bounds = All-contains (IsEdgeOf a) a.edges e formed.edges parts.0 in
        let both = and_parts (is_satisfiable (length a.names) e) (is_flagged flags e.from && is_flagged flags e.to) parts.1 in
        useful_live e.to ((are.exact e.to bounds.to).0 (and_parts (is_flagged flags e.from) (is_flagged flags e.to) both.1).1) condition);
  }

pub pruned_are_live : PrunedAreLive
pruned_are_live a other formed condition pruned = subst AreLive (sym pruned.is) (between_live a formed pruned.flags pruned.useful condition)
