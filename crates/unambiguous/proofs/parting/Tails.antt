-- The rest of an accepting run from one of its states on.
use Rattle.std.proofs.Common.{◌≡◌, ◌∙◌, ℕ, suc, ◌+◌, ◌*◌, ◌<◌, ◌≤◌, true, List, [], ◌∷◌, ◌++◌, Contains, Some, ap, append_assoc, arith, inl, inr, length}
use Rattle.std.proofs.Common.{length-append, map, refl, slice_get, subst, sym}
use Rattle.std.proofs.Math.Nat.{le-mul_of_pos_right}
use Rattle.std.proofs.lemmas.Option.{same_Some}
use Rattle.aut_base.proofs.lists.Lists.{slice_get-append_right}
use Rattle.aut_base.proofs.lists.Members.{first_there, none_there, there_cases}
use Rattle.aut_base.proofs.runs.LassoRuns.{accepts_of}
use Rattle.aut_base.proofs.runs.OtherEdges.{path_wider}
use Rattle.aut_base.proofs.words.Spelled.{stem_letter, word_letter}
use Rattle.aut_base.specs.Acceptance.{Accepts}
use Rattle.aut_base.specs.Automaton.{Automaton, LabelledEdge}
use Rattle.aut_base.specs.Formula.{met}
use Rattle.aut_base.specs.Label.{holds_at, truth}
use Rattle.aut_base.specs.Word.{NameSet, copies, nth}
use Rattle.aut_ops.specs.Languages.{begun}
use Rattle.unambiguous.proofs.tracks.Accepted.{accepting, gone, placed, same_marks}
use Rattle.unambiguous.proofs.tracks.Starts.{Begins, begins}
use Rattle.unambiguous.proofs.tracks.Tracks.{IsEdgePath, as_long, edge_marks, some_edges, track_join}
use Rattle.unambiguous.specs.Runs.{AcceptingRun, IsUnambiguous}

-- after a prefix of its stem, a stem and cycle go on as without the prefix
pub nth_behind : (front path_edges cycle : List ℕ) (n : ℕ) → 0 < length cycle → nth (front ++ path_edges) cycle (length front + n) ≡ nth path_edges cycle n
nth_behind front path_edges cycle n some =
    let i = suc n in
    let wide : suc n ≤ suc n * length cycle = le-mul_of_pos_right (suc n) some in
    word_letter (front ++ path_edges) cycle i (length front + n) some (omega (arith, length-append front path_edges, wide))
    ∙ (ap (λ (ms : List ℕ). slice_get ms (length front + n)) (append_assoc front path_edges (copies i cycle))
    ∙ (slice_get-append_right front (path_edges ++ copies i cycle) n (length front + n) refl ∙ sym (word_letter path_edges cycle i n some (omega (arith, wide)))))

module _ (a : Automaton) where
  -- an accepting run from this state
  pub record Tail (p : ℕ) (u v : List NameSet) : Type 0 where
    pub state : ℕ
    pub stem_rounds : ℕ
    pub cycle_rounds : ℕ
    pub path_edges : List ℕ
    pub cycle : List ℕ
    pub leads : IsEdgePath a p (u ++ copies stem_rounds v) path_edges state
    pub positive : 0 < cycle_rounds
    pub returns : IsEdgePath a state (copies cycle_rounds v) cycle state
    pub meets : met (map (edge_marks a) cycle) a.formula ≡ true

  pub to_tail : (p : ℕ) (u v : List NameSet) → Accepts (begun p a) u v → Tail p u v
  to_tail p u v r =
      let start : p ≡ r.start = elim (there_cases p [] r.start r.is_start) [ inl is ↦ is | inr none ↦ absurd (none_there r.start none) ] in
      let leads = path_wider (begun p a) a refl (λ e there. there) r.start r.state (u ++ copies r.stem_rounds v) r.path_edges r.leads in
      let returns = path_wider (begun p a) a refl (λ e there. there) r.state r.state (copies r.cycle_rounds v) r.cycle r.returns in
      let path_edges = placed a r.start r.state (u ++ copies r.stem_rounds v) r.path_edges leads in
      let cycle = placed a r.state r.state (copies r.cycle_rounds v) r.cycle returns in
      record {
        state = r.state;
        stem_rounds = r.stem_rounds;
        cycle_rounds = r.cycle_rounds;
        path_edges = path_edges.places;
        cycle = cycle.places;
        leads = subst (λ s. IsEdgePath a s (u ++ copies r.stem_rounds v) path_edges.places r.state) (sym start) path_edges.track;
        positive = r.positive;
        returns = cycle.track;
        meets = ap (λ cs. met cs a.formula) (same_marks a cycle.places r.cycle cycle.at) ∙ r.meets;
      }

  pub from_tail : (p : ℕ) (u v : List NameSet) → 0 < length v → Tail p u v → Accepts (begun p a) u v
  from_tail p u v endless t =
      let path_edges = gone a p t.state (u ++ copies t.stem_rounds v) t.path_edges t.leads in
      let cycle = gone a t.state t.state (copies t.cycle_rounds v) t.cycle t.returns in
      accepts_of (begun p a) u v t.stem_rounds t.cycle_rounds (record {
        start = p;
        state = t.state;
        path_edges = path_edges.edges;
        cycle = cycle.edges;
        is_start = first_there p [];
        leads = path_wider a (begun p a) refl (λ e there. there) p t.state (u ++ copies t.stem_rounds v) path_edges.edges path_edges.path;
        returns = path_wider a (begun p a) refl (λ e there. there) t.state t.state (copies t.cycle_rounds v) cycle.edges cycle.path;
      }) endless t.positive (ap (λ cs. met cs a.formula) (sym (same_marks a t.cycle cycle.edges cycle.at)) ∙ t.meets)

  -- with one edge before it
  abbrev pub tail_before : (p m : ℕ) (x : NameSet) (e : LabelledEdge) (u v : List NameSet) → slice_get a.edges m ≡ Some e → p ≡ e.from → truth (holds_at a.names x) e.label ≡ true
      → Tail e.to u v → Tail p (x ∷ u) v
  tail_before p m x e u v at from holds t = record {
    state = t.state;
    stem_rounds = t.stem_rounds;
    cycle_rounds = t.cycle_rounds;
    path_edges = m ∷ t.path_edges;
    cycle = t.cycle;
    leads = (e, at, from, holds, t.leads);
    positive = t.positive;
    returns = t.returns;
    meets = t.meets;
  }

  -- and a track from a start
  abbrev pub run_before : (start p : ℕ) (xs u v : List NameSet) (front : List ℕ) → Contains a.starts start → IsEdgePath a start xs front p → 0 < length v → Tail p u v → AcceptingRun a (xs ++ u) v
  run_before start p xs u v front is_start leads endless t = accepting a (xs ++ u) v t.stem_rounds t.cycle_rounds (record {
    start = start;
    state = t.state;
    path_edges = front ++ t.path_edges;
    cycle = t.cycle;
    is_start = is_start;
    leads = subst (λ w. IsEdgePath a start w (front ++ t.path_edges) t.state) (sym (append_assoc xs u (copies t.stem_rounds v)))
        (track_join a start p t.state xs (u ++ copies t.stem_rounds v) front t.path_edges leads t.leads);
    returns = t.returns;
  }) endless t.positive t.meets

  -- two tracks from starts that read the same
  pub record AreLed (p q : ℕ) : Type 0 where
    pub letters : List NameSet
    pub first : ℕ
    pub second : ℕ
    pub is_first : Contains a.starts first
    pub is_second : Contains a.starts second
    pub path_edges : List ℕ
    pub other : List ℕ
    pub leads : IsEdgePath a first letters path_edges p
    pub leads_too : IsEdgePath a second letters other q

  module _ (u v : List NameSet) (endless : 0 < length v) where
    pub some_cycle : (p : ℕ) (t : Tail p u v) → 0 < length t.cycle
    some_cycle p t = some_edges a u v endless t.state t.state t.cycle_rounds t.cycle t.positive t.returns

    -- in an unambiguous automaton both rests begin with the same edge
    pub begin_alike : IsUnambiguous a → (p q : ℕ) → AreLed p q → (t : Tail p u v) (s : Tail q u v) → nth t.path_edges t.cycle 0 ≡ nth s.path_edges s.cycle 0
    begin_alike alone p q led t s =
        let one = run_before led.first p led.letters u v led.path_edges led.is_first led.leads endless t in
        let two = run_before led.second q led.letters u v led.other led.is_second led.leads_too endless s in
        let long : length led.path_edges ≡ length led.letters = as_long a led.first led.letters led.path_edges p led.leads in
        let long_too : length led.other ≡ length led.letters = as_long a led.second led.letters led.other q led.leads_too in
        let n : length led.path_edges + 0 ≡ length led.other + 0 = omega (arith, long, long_too) in
        sym (nth_behind led.path_edges t.path_edges t.cycle 0 (some_cycle p t))
        ∙ (alone (led.letters ++ u) v one two (length led.path_edges + 0)
        ∙ (ap (nth (led.other ++ s.path_edges) s.cycle) n ∙ nth_behind led.other s.path_edges s.cycle 0 (some_cycle q s)))

    -- so they begin in the same state
    pub from_one : (p q : ℕ) (t : Tail p u v) (s : Tail q u v) → nth t.path_edges t.cycle 0 ≡ nth s.path_edges s.cycle 0 → p ≡ q
    from_one p q t s same =
        let mine : Begins a p t.path_edges t.cycle = begins a p t.state t.state (u ++ copies t.stem_rounds v) (copies t.cycle_rounds v) t.path_edges t.cycle t.leads t.returns (some_cycle p t) in
        let his : Begins a q s.path_edges s.cycle = begins a q s.state s.state (u ++ copies s.stem_rounds v) (copies s.cycle_rounds v) s.path_edges s.cycle s.leads s.returns (some_cycle q s) in
        let place : mine.place ≡ his.place = same_Some mine.place his.place (sym mine.is_first ∙ (same ∙ his.is_first)) in
        let edge : mine.edge ≡ his.edge = same_Some mine.edge his.edge (sym mine.at ∙ (ap (slice_get a.edges) place ∙ his.at)) in
        mine.from ∙ (ap (λ (e : LabelledEdge). e.from) edge ∙ sym his.from)

-- the first item of a list that isn't empty
pub nth_first : (m : ℕ) (path_edges cycle : List ℕ) → nth (m ∷ path_edges) cycle 0 ≡ Some m
nth_first m path_edges cycle = stem_letter (m ∷ path_edges) cycle 0 (omega arith)
