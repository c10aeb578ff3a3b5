-- A well-formed automaton is well formed with counters too.
use Rattle.std.proofs.Common.{◌≡◌, ◌≢◌, ◌∙◌, ◌+◌, ◌*◌, ◌<◌, ◌≤◌, ◌==◌, ℕ, None, Some, List, [], ◌∷◌, All, AllPairs, Contains, ap, arith, get_or, map, subst, sym}
use Rattle.std.proofs.lemmas.Bool.{cond_both, eqb-true}
use Rattle.std.proofs.lemmas.List.{append-nil, get_or-map, length-map}
use Rattle.std.proofs.lemmas.List.Elements.{All-cons, All-map, All-nil, All-weaker}
use Rattle.std.proofs.lemmas.Nat.{mul-add-lt, same_from_place}
use Rattle.aut_base.proofs.lists.Members.{each_there, from_filter, from_map}
use Rattle.aut_base.proofs.order.Rising.{Rises, rises_at, rises_pieces, rises_wider, rising}
use Rattle.aut_base.specs.Automaton.{Automaton, IsEdgeOf, IsWellFormed, LabelledEdge}
use Rattle.aut_core.specs.Surveys.{edges_from}
use Rattle.fin_removal.proofs.CopiedEdges.{edge_bounds}
use Rattle.degeneralise.specs.Buchi.{Watch, edge_at_level, level_after, level_edges, with_counters, levels, marks_at_level, meets_level}
use Rattle.degeneralise.specs.inner.Parts.{state_at}
use Rattle.degeneralise.proofs.LevelWalks.{some_level}
use Rattle.degeneralise.proofs.LevelledEdges.{comes_from}
use Rattle.degeneralise.proofs.Turns.{turn_below}

-- the number of a state at a level is below the number of states with counters
state_below : (n k state level : ℕ) → state < n → level < k → state_at k state level < n * k
state_below n k state level within below = omega (arith, mul-add-lt state k level n within below)

-- the only mark is 0
one_mark : (P : List ℕ → Type 0) → P [] → P (0 ∷ []) → (w : Watch) (level : ℕ) (marks : List ℕ) → P (marks_at_level w level marks)
one_mark P none one w level marks = cond_both (meets_level w level marks) _ _ P (λ e. cond_both (level + 1 == levels w) _ _ P (λ f. one) (λ f. none)) (λ e. none)

next_within : (w : Watch) (level : ℕ) (marks : List ℕ) → level < levels w → level_after w level marks < levels w
next_within None level marks below = below
next_within (Some ls) level marks below = turn_below ls level marks below

module _ (k : ℕ) (watch : ℕ → Watch) (a : Automaton) (formed : IsWellFormed a) (room : (state : ℕ) → levels (watch state) ≤ k) where
  edge_whole : (f : LabelledEdge) → Contains (with_counters k watch a).edges f → IsEdgeOf (with_counters k watch a) f
  edge_whole f there =
      let s = comes_from k watch a f there in
      let e = s.edge in
      let bounds = edge_bounds a formed e s.there in
      let w = watch e.from in
      let after = next_within w s.level e.marks s.below in
      subst (IsEdgeOf (with_counters k watch a)) s.is (record {
        from = state_below a.states k e.from s.level bounds.from (omega (arith, s.below, room e.from));
        to = state_below a.states k e.to (level_after w s.level e.marks) bounds.to (omega (arith, after, room e.from));
        label = bounds.label;
        marks = one_mark (All (λ mark. mark < 1)) (All-nil (λ mark. mark < 1)) (All-cons (λ mark. mark < 1) 0 [] (omega arith) (All-nil (λ mark. mark < 1))) w s.level e.marks;
        marks_rise = one_mark (AllPairs (λ m n. m < n)) (λ i j d order within. absurd (omega (arith, within))) (λ i j d order within. absurd (omega (arith, order, within))) w s.level e.marks;
      })

  level_rises : (state level : ℕ) (w : Watch) → Rises (state * k + level) (state * k + (level + 1)) (map (edge_at_level k w level) (edges_from state a.edges))
  level_rises state level w =
      let es : List LabelledEdge = map (edge_at_level k w level) (edges_from state a.edges) in
      subst (λ (fs : List LabelledEdge). Rises (state * k + level) (state * k + (level + 1)) fs) (append-nil es)
      (rises_at (state * k + level) (state * k + level) (state * k + (level + 1)) es [] (omega arith) (omega arith) (λ f there.
      let at = from_map (edge_at_level k w level) (edges_from state a.edges) f there in
      let kept = from_filter (λ (e : LabelledEdge). e.from == state) a.edges at.0 at.1 in
      let same = eqb-true at.0.from state kept.1 in
      ap (λ (g : LabelledEdge). g.from) (sym at.2) ∙ ap (λ s. state_at k s level) same) tt)

  state_rises : (state : ℕ) → Rises (state * k) ((state + 1) * k) (level_edges k (edges_from state a.edges) (watch state))
  state_rises state =
      let w = watch state in
      let low : state * k + 0 ≡ state * k = omega arith in
      let next : state * k + k ≡ (state + 1) * k = omega arith in
      let all = rises_pieces (λ level. map (edge_at_level k w level) (edges_from state a.edges)) (λ level. state * k + level) (λ x. omega arith) 0 (levels w)
      (λ level l h. level_rises state level w) in
      rises_wider (state * k + 0) (state * k) (state * k + (0 + levels w)) ((state + 1) * k) _ (omega (arith, low)) (omega (arith, next, room state)) all

  rise : Rises 0 (a.states * k) (with_counters k watch a).edges
  rise =
      let low : 0 * k ≡ 0 = omega arith in
      let high : (0 + a.states) * k ≡ a.states * k = omega arith in
      subst (λ l. Rises l (a.states * k) (with_counters k watch a).edges) low (subst (λ h. Rises (0 * k) h (with_counters k watch a).edges) high
      (rises_pieces (λ state. level_edges k (edges_from state a.edges) (watch state)) (λ x. x * k) (λ x. omega arith) 0 a.states (λ x l h. state_rises x)))

  starts_apart : 0 < k → AllPairs (λ p q. p ≢ q) (with_counters k watch a).starts
  starts_apart some i j d order within same =
      let size = length-map a.starts (λ start. state_at k start 0) in
      let first = get_or-map (λ start. state_at k start 0) a.starts i d d (omega (arith, order, within, size)) in
      let second = get_or-map (λ start. state_at k start 0) a.starts j d d (omega (arith, within, size)) in
      formed.starts_differ i j d order (omega (arith, within, size)) (same_from_place (get_or a.starts i d) 0 (get_or a.starts j d) 0 k some some (sym first ∙ (same ∙ second))).0

  pub levelled_well_formed : IsWellFormed (with_counters k watch a)
  levelled_well_formed =
      let some : 0 < k = omega (arith, room 0, some_level (watch 0)) in
      record {
        names_differ = formed.names_differ;
        starts_differ = starts_apart some;
        starts = All-map (λ p. p < a.states * k) (λ start. state_at k start 0) a.starts
            (All-weaker (λ p. p < a.states) (λ p. state_at k p 0 < a.states * k) (λ p h. state_below a.states k p 0 h some) a.starts formed.starts);
        in_order = rising 0 (a.states * k) (with_counters k watch a).edges rise;
        edges = each_there (IsEdgeOf (with_counters k watch a)) (with_counters k watch a).edges edge_whole;
        formula = omega arith;
      }
