-- The useful states are found by two searches, and a pruned automaton accepts the same words.
use Rattle.std.proofs.Common.{◌≡◌, ◌∙◌, ◌<◌, ◌&&◌, ◌||◌, ℕ, Bool, true, false, IsTrue, List, [], ◌∷◌, All, Contains, ap, arith, filter, inl, inr, length, map, nat_eq, refl, subst, sym}
use Rattle.std.proofs.lemmas.Bool.{and_from, and_parts, cases_Bool, eq-eqb, eqb-true, false≢true}
use Rattle.std.proofs.lemmas.List.{length-map}
use Rattle.std.proofs.lemmas.List.Elements.{All-contains, All-map, All-weaker}
use Rattle.std.proofs.lemmas.List.FromFn.{get_or-map-range_with_len, length-range_with_len}
use Rattle.std.specs.List.{list_any, range_with_len}
use Rattle.aut_base.proofs.lists.Members.{from_filter, from_map, there_filter, there_map}
use Rattle.aut_base.specs.Acceptance.{Accepts, IsPath}
use Rattle.aut_base.specs.Automaton.{Automaton, IsWellFormed, LabelledEdge}
use Rattle.aut_base.specs.Formula.{Inf, met}
use Rattle.aut_base.specs.Marks.{is_in}
use Rattle.aut_base.specs.Word.{NameSet, copies}
use Rattle.aut_core.specs.SymbolicAutomata.{SymbolicAutomaton, IsWellFormedSymbolic, IsLinkOf, automaton_of, edge_of}
use Rattle.aut_core.specs.OtherNames.{AcceptTheSame}
use Rattle.aut_core.specs.declared.link.Link.{Link}
use Rattle.aut_ops.proofs.flagged.Between.{between_accepts, edge_reaches, passable_there, path_reaches}
use Rattle.aut_base.proofs.runs.LassoRuns.{marks_of}
use Rattle.aut_ops.specs.Satisfiable.{between, is_flagged, is_satisfiable, passable_arcs, satisfiable_edges}
use Rattle.aut_ops.specs.inner.Parts.{arc_of}
use Rattle.aut_ops.specs.Pruning.{AreUseful, IsMarkedOnCycle, IsUseful}
use Rattle.aut_ops.specs.inner.Renumbering.{both_flagged, link_closes, link_passable, new_number, reversed_arc}
use Rattle.graph_walk.proofs.WalkLemmas.{reach_then}
use Rattle.graph_walk.specs.Components.{AreComponents}
use Rattle.graph_walk.specs.Reach.{AreReachFlags}
use Rattle.graph_walk.specs.Walk.{IsWalk, Reaches}

-- walks in the reversed graph

pub turned_reaches : (arcs : List (ℕ × ℕ)) (p q : ℕ) → Reaches arcs p q → Reaches (map reversed_arc arcs) q p
turned_reaches arcs p q reaches = by_cases p reaches.walk reaches.leads
  where
    by_cases : (p : ℕ) (walk : List (ℕ × ℕ)) → IsWalk arcs p walk q → Reaches (map reversed_arc arcs) q p
    by_cases p [] leads = record { walk = []; leads = sym leads }
    by_cases p (a ∷ walk) leads = reach_then (map reversed_arc arcs) q a.1 p (by_cases a.1 walk leads.2)
        (record { walk = reversed_arc a ∷ []; leads = (there_map reversed_arc arcs a leads.0, refl, leads.1) })

turned_twice : (arcs : List (ℕ × ℕ)) → map reversed_arc (map reversed_arc arcs) ≡ arcs
turned_twice [] = refl
turned_twice (a ∷ arcs) = ap (λ rest. a ∷ rest) (turned_twice arcs)

pub turned_back : (arcs : List (ℕ × ℕ)) (p q : ℕ) → Reaches (map reversed_arc arcs) q p → Reaches arcs p q
turned_back arcs p q reaches = subst (λ ls. Reaches ls p q) (turned_twice arcs) (turned_reaches (map reversed_arc arcs) q p reaches)

-- the arcs of the reversed graph are between nodes
pub turned_nodes : (nodes : ℕ) (arcs : List (ℕ × ℕ)) → All (λ a. (a.0 < nodes) × (a.1 < nodes)) arcs → All (λ a. (a.0 < nodes) × (a.1 < nodes)) (map reversed_arc arcs)
turned_nodes nodes arcs within = All-map (λ (a : ℕ × ℕ). (a.0 < nodes) × (a.1 < nodes)) reversed_arc arcs
    (All-weaker (λ (a : ℕ × ℕ). (a.0 < nodes) × (a.1 < nodes)) (λ (a : ℕ × ℕ). (a.1 < nodes) × (a.0 < nodes)) (λ a both. (both.1, both.0)) arcs within)

-- a path has an edge in set 0
pub record GoesMarked (a : Automaton) (p q : ℕ) : Type 0 where
  pub edge : LabelledEdge
  pub is_edge : Contains (satisfiable_edges a) edge
  pub marked : is_in 0 edge.marks ≡ true
  pub before : Reaches (passable_arcs a) p edge.from
  pub after : Reaches (passable_arcs a) edge.to q

pub goes_marked : (a : Automaton) → IsWellFormed a → (p q : ℕ) (xs : List NameSet) (es : List LabelledEdge) → IsPath a p xs es q → list_any (is_in 0) (marks_of es) ≡ true → GoesMarked a p q
goes_marked a formed p q [] [] path some = absurd (false≢true some)
goes_marked a formed p q [] (e ∷ es) path some = absurd path
goes_marked a formed p q (x ∷ xs) [] path some = absurd path
goes_marked a formed p q (x ∷ xs) (e ∷ es) path some = elim (cases_Bool (is_in 0 e.marks)) [
  | inl here ↦ record { edge = e; is_edge = there; marked = here; before = record { walk = []; leads = path.0 }; after = path_reaches a formed e.to q xs es path.3 }
  | inr other ↦ (let rest = goes_marked a formed e.to q xs es path.3 (sym (ap (λ b. b || list_any (is_in 0) (marks_of es)) other) ∙ some) in
      record {
        edge = rest.edge;
        is_edge = rest.is_edge;
        marked = rest.marked;
        before = reach_then (passable_arcs a) p e.to rest.edge.from (record { walk = arc_of e ∷ []; leads = (there_map arc_of (satisfiable_edges a) e there, sym path.0, refl) }) rest.before;
        after = rest.after;
      })
]
  where
    there : Contains (satisfiable_edges a) e
    there = passable_there a formed e x path.1 path.2

-- the states of an accepting run are useful
pub useful_accepts : (a : Automaton) → IsWellFormed a → (flags : List Bool) → AreUseful a flags → a.formula ≡ Inf 0 false → AcceptTheSame (between flags a) a
useful_accepts a formed flags are condition = between_accepts a formed flags (λ u v r q within before after. (are.exact q within).1 (useful u v r q before after))
  where
    useful : (u v : List NameSet) (r : Accepts a u v) (q : ℕ) → Reaches (passable_arcs a) r.start q → Reaches (passable_arcs a) q r.state → IsUseful a q
    useful u v r q before after =
        let found = goes_marked a formed r.state r.state (copies r.cycle_rounds v) r.cycle r.returns (ap (met (marks_of r.cycle)) (sym condition) ∙ r.meets) in
        record {
          reached = record { start = r.start; listed = r.is_start; reached = before };
          edge = found.edge;
          on_cycle = record { is_edge = found.is_edge; marked = found.marked; closes = reach_then (passable_arcs a) found.edge.to r.state found.edge.from found.after found.before };
          leads = reach_then (passable_arcs a) q r.state found.edge.from after found.before;
        }

module _ (c : SymbolicAutomaton) (core : IsWellFormedSymbolic c) (numbers : List ℕ) (are : AreComponents c.states (passable_arcs (automaton_of c)) numbers) where
  abbrev a : Automaton
  a = automaton_of c

  -- the edge of a link in set 0 inside of a component is on a cycle
  pub closes_on_cycle : (l : Link) → Contains c.links l → link_closes c numbers l ≡ true → IsMarkedOnCycle a (edge_of c.store l)
  closes_on_cycle l there closes =
      let first = and_parts (link_passable c l) (is_in 0 l.marks && nat_eq (new_number numbers l.from) (new_number numbers l.to)) closes in
      let second = and_parts (is_in 0 l.marks) (nat_eq (new_number numbers l.from) (new_number numbers l.to)) first.1 in
      let link = All-contains (IsLinkOf c) c.links l core.parts.links there in
      record {
        is_edge = there_filter (is_satisfiable (length c.names)) a.edges (edge_of c.store l) (there_map (edge_of c.store) c.links l there) first.0;
        marked = second.0;
        closes = ((are.same l.from l.to link.from link.to).0 (eqb-true (new_number numbers l.from) (new_number numbers l.to) second.1)).1;
      }

  -- and each such edge is that of such a link
  pub on_cycle_closes : (e : LabelledEdge) → IsMarkedOnCycle a e → Contains (map (λ (l : Link). l.from) (filter (link_closes c numbers) c.links)) e.from
  on_cycle_closes e on =
      let passes = from_filter (is_satisfiable (length c.names)) a.edges e on.is_edge in
      let found = from_map (edge_of c.store) c.links e passes.0 in
      let l = found.0 in
      let from : l.from ≡ e.from = ap (λ (d : LabelledEdge). d.from) found.2 in
      let to : l.to ≡ e.to = ap (λ (d : LabelledEdge). d.to) found.2 in
      let link = All-contains (IsLinkOf c) c.links l core.parts.links found.1 in
      let forth = subst (λ p. Reaches (passable_arcs a) p l.to) (sym from) (subst (λ q. Reaches (passable_arcs a) e.from q) (sym to) (edge_reaches a core.well_formed e on.is_edge)) in
      let back = subst (λ p. Reaches (passable_arcs a) p l.from) (sym to) (subst (λ q. Reaches (passable_arcs a) e.to q) (sym from) on.closes) in
      let same = eq-eqb (new_number numbers l.from) (new_number numbers l.to) ((are.same l.from l.to link.from link.to).1 (forth, back)) in
      let marked : is_in 0 l.marks ≡ true = ap (λ (d : LabelledEdge). is_in 0 d.marks) found.2 ∙ on.marked in
      let passable : link_passable c l ≡ true = ap (is_satisfiable (length c.names)) found.2 ∙ passes.1 in
      let closes = and_from (link_passable c l) (is_in 0 l.marks && nat_eq (new_number numbers l.from) (new_number numbers l.to)) passable
      (and_from (is_in 0 l.marks) (nat_eq (new_number numbers l.from) (new_number numbers l.to)) marked same) in
      subst (Contains (map (λ (m : Link). m.from) (filter (link_closes c numbers) c.links))) from
      (there_map (λ (m : Link). m.from) (filter (link_closes c numbers) c.links) l (there_filter (link_closes c numbers) c.links l found.1 closes))

  -- the states found by both searches are the useful ones
  pub found_useful : (sources : List ℕ) (reached leading flags : List Bool) → sources ≡ map (λ (l : Link). l.from) (filter (link_closes c numbers) c.links)
      → AreReachFlags c.states (passable_arcs a) c.starts reached → AreReachFlags c.states (map reversed_arc (passable_arcs a)) sources leading → flags ≡ both_flagged reached leading
      → AreUseful a flags
  found_useful sources reached leading flags sources_are first second is = record {
    size = ap (λ (fs : List Bool). length fs) is
        ∙ (length-map (range_with_len 0 (length reached)) (λ k. is_flagged reached k && is_flagged leading k) ∙ (length-range_with_len 0 (length reached) ∙ first.size));
    exact = λ q within. (there q within, back q within);
  }
    where
      flag_is : (q : ℕ) → q < c.states → is_flagged flags q ≡ (is_flagged reached q && is_flagged leading q)
      flag_is q within = ap (λ fs. is_flagged fs q) is
          ∙ get_or-map-range_with_len (λ k. is_flagged reached k && is_flagged leading k) 0 (length reached) q q false (omega (arith, within, first.size)) (omega arith)

      there : (q : ℕ) → q < c.states → IsTrue (is_flagged flags q) → IsUseful a q
      there q within flag =
          let parts = and_parts (is_flagged reached q) (is_flagged leading q) (sym (flag_is q within) ∙ flag) in
          let found = (second.exact q within).0 parts.1 in
          let source = from_map (λ (l : Link). l.from) (filter (link_closes c numbers) c.links) found.start (subst (λ s. Contains s found.start) sources_are found.listed) in
          let link = from_filter (link_closes c numbers) c.links source.0 source.1 in
          record {
            reached = (first.exact q within).0 parts.0;
            edge = edge_of c.store source.0;
            on_cycle = closes_on_cycle source.0 link.0 link.1;
            leads = subst (λ p. Reaches (passable_arcs a) q p) (sym source.2) (turned_back (passable_arcs a) q found.start found.reached);
          }

      back : (q : ℕ) → q < c.states → IsUseful a q → IsTrue (is_flagged flags q)
      back q within useful =
          flag_is q within
          ∙ and_from (is_flagged reached q) (is_flagged leading q) ((first.exact q within).1 useful.reached) ((second.exact q within).1 (record {
            start = useful.edge.from;
            listed = subst (λ s. Contains s useful.edge.from) (sym sources_are) (on_cycle_closes useful.edge useful.on_cycle);
            reached = turned_reaches (passable_arcs a) q useful.edge.from useful.leads;
          }))
