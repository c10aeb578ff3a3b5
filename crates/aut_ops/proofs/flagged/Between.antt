-- An automaton restricted to flagged states is well formed, and accepts the same words where accepting runs stay at such states.
use Rattle.std.proofs.Common.{◌≡◌, ◌≢◌, ◌<◌, ◌&&◌, ℕ, Bool, true, false, cond, not, List, [], ◌∷◌, ◌++◌, Contains, ap, arith, filter, length, refl, subst, sym}
use Rattle.std.proofs.lemmas.Bool.{and_from}
use Rattle.std.proofs.lemmas.List.Elements.{All-contains, All-filter, All-map, All-weaker}
use Rattle.std.proofs.lemmas.List.Kept.{AllPairs-filter}
use Rattle.aut_base.proofs.order.Climbing.{Climbs, climbs_in_order, climbs_lower, in_order_climbs}
use Rattle.aut_base.proofs.lists.Members.{from_filter, there_filter, there_map}
use Rattle.aut_base.specs.Acceptance.{Accepts, IsPath}
use Rattle.aut_base.specs.Automaton.{Automaton, IsEdgeOf, IsWellFormed, LabelledEdge}
use Rattle.aut_base.specs.Label.{holds_at, truth}
use Rattle.aut_base.specs.Word.{NameSet, copies}
use Rattle.aut_core.specs.OtherNames.{AcceptTheSame}
use Rattle.aut_ops.proofs.links.Labels.{not_never}
use Rattle.aut_base.proofs.runs.LassoRuns.{accepts_too}
use Rattle.aut_base.proofs.runs.OtherEdges.{accepts_wider}
use Rattle.aut_ops.specs.Satisfiable.{between, is_flagged, is_satisfiable, passable_arcs, satisfiable_edges}
use Rattle.aut_ops.specs.inner.Parts.{arc_of, is_kept_edge}
use Rattle.graph_walk.proofs.WalkLemmas.{reach_none, reach_then}
use Rattle.graph_walk.specs.Reach.{AreReachFlags}
use Rattle.graph_walk.specs.Walk.{HasNodes, Reaches}

pub climbs_filter : (p : LabelledEdge → Bool) (low : ℕ) (es : List LabelledEdge) → Climbs low es → Climbs low (filter p es)
climbs_filter p low [] climbs = tt
climbs_filter p low (e ∷ es) climbs = by_cases (p e) (climbs_filter p e.from es climbs.1)
  where
    by_cases : (b : Bool) → Climbs e.from (filter p es) → Climbs low (cond b (e ∷ filter p es) (filter p es))
    by_cases true rest = (climbs.0, rest)
    by_cases false rest = climbs_lower low e.from (filter p es) climbs.0 rest

module _ (a : Automaton) (formed : IsWellFormed a) where
  edge_within : (e : LabelledEdge) → Contains a.edges e → IsEdgeOf a e
  edge_within e there = All-contains (IsEdgeOf a) a.edges e formed.edges there

  -- an edge whose label a letter satisfies is one with a satisfiable label
  pub passable_met : (e : LabelledEdge) (x : NameSet) → Contains a.edges e → truth (holds_at a.names x) e.label ≡ true → is_satisfiable (length a.names) e ≡ true
  passable_met e x there holds = ap not (not_never (length a.names) (holds_at a.names x) e.label (edge_within e there).label holds)

  pub passable_there : (e : LabelledEdge) (x : NameSet) → Contains a.edges e → truth (holds_at a.names x) e.label ≡ true → Contains (satisfiable_edges a) e
  passable_there e x there holds = there_filter (is_satisfiable (length a.names)) a.edges e there (passable_met e x there holds)

  pub edge_reaches : (e : LabelledEdge) → Contains (satisfiable_edges a) e → Reaches (passable_arcs a) e.from e.to
  edge_reaches e there = record { walk = arc_of e ∷ []; leads = (there_map arc_of (satisfiable_edges a) e there, refl, refl) }

  passable_nodes : HasNodes a.states (passable_arcs a)
  passable_nodes =
      All-map (λ (arc : ℕ × ℕ). (arc.0 < a.states) × (arc.1 < a.states)) arc_of (satisfiable_edges a)
      (All-filter (is_satisfiable (length a.names)) (λ (e : LabelledEdge). (e.from < a.states) × (e.to < a.states)) a.edges
      (All-weaker (IsEdgeOf a) (λ (e : LabelledEdge). (e.from < a.states) × (e.to < a.states)) (λ e edge. (edge.from, edge.to)) a.edges formed.edges))

  -- a graph that was made of these edges
  pub graph_nodes : (nodes : ℕ) (arcs : List (ℕ × ℕ)) → nodes ≡ a.states → arcs ≡ passable_arcs a → HasNodes nodes arcs
  graph_nodes nodes arcs nodes_are arcs_are = subst (HasNodes nodes) (sym arcs_are) (subst (λ n. HasNodes n (passable_arcs a)) (sym nodes_are) passable_nodes)

  pub graph_reached : (nodes : ℕ) (arcs : List (ℕ × ℕ)) (starts : List ℕ) (flags : List Bool) → nodes ≡ a.states → arcs ≡ passable_arcs a → starts ≡ a.starts
      → AreReachFlags nodes arcs starts flags → AreReachFlags a.states (passable_arcs a) a.starts flags
  graph_reached nodes arcs starts flags nodes_are arcs_are starts_are reached =
      subst (λ s. AreReachFlags a.states (passable_arcs a) s flags) starts_are
      (subst (λ ls. AreReachFlags a.states ls starts flags) arcs_are (subst (λ n. AreReachFlags n arcs starts flags) nodes_are reached))

  -- a path leads along edges with satisfiable labels
  pub path_reaches : (p q : ℕ) (xs : List NameSet) (es : List LabelledEdge) → IsPath a p xs es q → Reaches (passable_arcs a) p q
  path_reaches p q [] [] path = record { walk = []; leads = path }
  path_reaches p q [] (e ∷ es) path = absurd path
  path_reaches p q (x ∷ xs) [] path = absurd path
  path_reaches p q (x ∷ xs) (e ∷ es) path =
      let rest = path_reaches e.to q xs es path.3 in
      record {
        walk = arc_of e ∷ rest.walk;
        leads = (there_map arc_of (satisfiable_edges a) e (passable_there e x path.1 path.2), sym path.0, rest.leads);
      }

  module _ (flags : List Bool) where
    -- the states on walks from s to t are flagged
    abbrev pub AreFlagged : ℕ → ℕ → Type 0
    AreFlagged s t = (r : ℕ) → r < a.states → Reaches (passable_arcs a) s r → Reaches (passable_arcs a) r t → is_flagged flags r ≡ true

    pub path_between : (s t : ℕ) → AreFlagged s t → (p q : ℕ) (xs : List NameSet) (es : List LabelledEdge) → Reaches (passable_arcs a) s p → Reaches (passable_arcs a) q t → IsPath a p xs es q
        → IsPath (between flags a) p xs es q
    path_between s t on p q [] [] before after path = path
    path_between s t on p q [] (e ∷ es) before after path = absurd path
    path_between s t on p q (x ∷ xs) [] before after path = absurd path
    path_between s t on p q (x ∷ xs) (e ∷ es) before after path =
        let step = edge_reaches e (passable_there e x path.1 path.2) in
        let from = subst (λ r. Reaches (passable_arcs a) s r) path.0 before in
        let to = reach_then (passable_arcs a) s e.from e.to from step in
        let onwards = reach_then (passable_arcs a) e.to q t (path_reaches e.to q xs es path.3) after in
        let begins = on e.from (edge_within e path.1).from from (reach_then (passable_arcs a) e.from e.to t step onwards) in
        let ends = on e.to (edge_within e path.1).to to onwards in
        let both = and_from (is_flagged flags e.from) (is_flagged flags e.to) begins ends in
        let stay = and_from (is_satisfiable (length a.names) e) (is_flagged flags e.from && is_flagged flags e.to) (passable_met e x path.1 path.2) both in
        (path.0, there_filter (is_kept_edge (length a.names) flags) a.edges e path.1 stay, path.2, path_between s t on e.to q xs es to after path.3)

    -- Where each accepting run stays at flagged states, the language is the same.
    pub between_accepts : ((u v : List NameSet) (r : Accepts a u v) → AreFlagged r.start r.state) → AcceptTheSame (between flags a) a
    between_accepts on u v = (wider, narrower)
      where
        wider : Accepts (between flags a) u v → Accepts a u v
        wider r =
            let has : (e : LabelledEdge) → Contains (between flags a).edges e → Contains a.edges e = λ e there. (from_filter (is_kept_edge (length a.names) flags) a.edges e there).0 in
            accepts_wider (between flags a) a refl has u v r (from_filter (is_flagged flags) a.starts r.start r.is_start).0 r.meets

        narrower : Accepts a u v → Accepts (between flags a) u v
        narrower r =
            let leads = path_reaches r.start r.state (u ++ copies r.stem_rounds v) r.path_edges r.leads in
            let none = reach_none (passable_arcs a) in
            let flagged = on u v r r.start (All-contains (λ p. p < a.states) a.starts r.start formed.starts r.is_start) (none r.start) leads in
            accepts_too a (between flags a) u v r (there_filter (is_flagged flags) a.starts r.start r.is_start flagged)
            (path_between r.start r.state (on u v r) r.start r.state (u ++ copies r.stem_rounds v) r.path_edges (none r.start) (none r.state) r.leads)
            (path_between r.start r.state (on u v r) r.state r.state (copies r.cycle_rounds v) r.cycle leads (none r.state) r.returns)
            r.meets

    pub between_formed : IsWellFormed (between flags a)
    between_formed = record {
      names_differ = formed.names_differ;
      starts_differ = AllPairs-filter (λ p q. p ≢ q) (is_flagged flags) a.starts formed.starts_differ;
      starts = All-filter (is_flagged flags) (λ p. p < a.states) a.starts formed.starts;
      in_order = climbs_in_order 0 (between flags a).edges (climbs_filter (is_kept_edge (length a.names) flags) 0 a.edges (in_order_climbs 0 a.edges (λ k d within. omega arith) formed.in_order));
      edges = All-filter (is_kept_edge (length a.names) flags) (IsEdgeOf (between flags a)) a.edges
          (All-weaker (IsEdgeOf a) (IsEdgeOf (between flags a)) (λ e edge. record { from = edge.from; to = edge.to; label = edge.label; marks = edge.marks; marks_rise = edge.marks_rise })
          a.edges formed.edges);
      formula = formed.formula;
    }
