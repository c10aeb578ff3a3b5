-- The successors of a set are the targets of its edges that are true at the valuation, in rising order.
use Rattle.std.proofs.Common.{◌≡◌, ◌<◌, ◌==◌, ◌&&◌, ℕ, Bool, true, Contains, List, eq-eqb}
use Rattle.std.proofs.Common.{filter, refl, subst, sym}
use Rattle.std.proofs.lemmas.Bool.{and_from, and_parts, eqb-true}
use Rattle.std.proofs.lemmas.List.Elements.{All-contains}
use Rattle.std.specs.List.{list_any}
use Rattle.std.specs.List.Sorted.{IsStrictlyIncreasing}
use Rattle.aut_base.proofs.lists.Members.{any_found, any_from, from_filter, from_flat_map, from_map, there_filter, there_map}
use Rattle.aut_base.specs.Automaton.{Automaton, IsEdgeOf, LabelledEdge}
use Rattle.aut_base.specs.Valuation.{truth_on}
use Rattle.aut_core.specs.SymbolicAutomata.{SymbolicAutomaton, IsWellFormedSymbolic, automaton_of}
use Rattle.aut_core.specs.Surveys.{edges_from}
use Rattle.letter_classes.specs.SetClasses.{set_edges}
use Rattle.letter_classes.specs.Taken.{taken_of}
use Rattle.aut_base.proofs.order.RisingLists.{kept_of_range}
use Rattle.monitor_form.specs.Subsets.{successor_set, start_set}
use Rattle.monitor_form.proofs.Explored.{is_goal}

abbrev end_of : LabelledEdge → ℕ
end_of e = e.to

-- the targets in rising order are the successors of the set
module _ (c : SymbolicAutomaton) (core : IsWellFormedSymbolic c) (v : List Bool) (set ends found : List ℕ) (rises : IsStrictlyIncreasing found) (keeps : (q : ℕ) → Contains ends q → Contains found q)
    (adds_none : (q : ℕ) → Contains found q → Contains ends q) where
  abbrev a : Automaton
  a = automaton_of c

  abbrev reads : LabelledEdge → Bool
  reads e = truth_on e.label v

  to_goal : ends ≡ taken_of end_of reads (set_edges a set) → (q : ℕ) → Contains found q → (q < c.states) × (is_goal reads (set_edges a set) q ≡ true)
  to_goal is q there =
      let end = from_map end_of (filter reads (set_edges a set)) q (subst (λ (qs : List ℕ). Contains qs q) is (adds_none q there)) in
      let kept = from_filter reads (set_edges a set) end.0 end.1 in
      let place = from_flat_map (λ p. edges_from p a.edges) set end.0 kept.0 in
      let edge = from_filter (λ (e : LabelledEdge). e.from == place.0) a.edges end.0 place.2 in
      let bounds = All-contains (IsEdgeOf a) a.edges end.0 core.well_formed.edges edge.0 in (
        subst (λ p. p < c.states) end.2 bounds.to,
        any_from (λ e. (e.to == q) && reads e) (set_edges a set) end.0 kept.0 (and_from (end.0.to == q) (reads end.0) (eq-eqb end.0.to q end.2) kept.1),
      )

  from_goal : ends ≡ taken_of end_of reads (set_edges a set) → (q : ℕ) → q < c.states → is_goal reads (set_edges a set) q ≡ true → Contains found q
  from_goal is q less passes =
      let e = any_found (λ d. (d.to == q) && reads d) (set_edges a set) passes in
      let parts = and_parts (e.0.to == q) (reads e.0) e.2 in
      let there = there_map end_of (filter reads (set_edges a set)) e.0 (there_filter reads (set_edges a set) e.0 e.1 parts.1) in
      keeps q (subst (λ (qs : List ℕ). Contains qs q) (sym is) (subst (Contains (taken_of end_of reads (set_edges a set))) (eqb-true e.0.to q parts.0) there))

  pub goals_are : ends ≡ taken_of end_of reads (set_edges a set) → found ≡ successor_set a set v
  goals_are is = kept_of_range (is_goal reads (set_edges a set)) c.states found rises (to_goal is) (from_goal is)

-- the starts in rising order
pub starts_are : (c : SymbolicAutomaton) → IsWellFormedSymbolic c → (starts found : List ℕ) → starts ≡ c.starts → IsStrictlyIncreasing found → ((q : ℕ) → Contains starts q → Contains found q)
    → ((q : ℕ) → Contains found q → Contains starts q) → found ≡ start_set (automaton_of c)
starts_are c core starts found is rises keeps adds_none = kept_of_range (λ q. list_any (λ s. s == q) c.starts) c.states found rises
    (λ q there. (
    let start = subst (λ (qs : List ℕ). Contains qs q) is (adds_none q there) in
    (All-contains (λ p. p < c.states) c.starts q core.well_formed.starts start, any_from (λ s. s == q) c.starts q start (eq-eqb q q refl))
    ))
    (λ q less passes. (
    let s = any_found (λ s. s == q) c.starts passes in
    keeps q (subst (λ (qs : List ℕ). Contains qs q) (sym is) (subst (Contains c.starts) (eqb-true s.0 q s.2) s.1))
    ))
