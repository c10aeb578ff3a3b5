-- Acceptance of a lasso word is decidable: a search for a path over the stem and few rounds to a state, and for an accepting
-- cycle of few rounds from it.
use Rattle.std.proofs.Common.{◌≡◌, ◌∙◌, ◌<◌, ◌≤◌, ℕ, true, List, ◌++◌, Contains, arith, inl, inr, length, refl, subst}
use Rattle.std.proofs.lemmas.Bool.{cases_eq}
use Rattle.std.proofs.lemmas.List.Elements.{All-contains}
use Rattle.aut_base.proofs.runs.LassoRuns.{marks_of}
use Rattle.aut_base.proofs.runs.Paths.{path_join, path_split}
use Rattle.aut_base.specs.Acceptance.{Accepts, IsPath}
use Rattle.aut_base.specs.Automaton.{Automaton, IsEdgeOf, IsWellFormed, LabelledEdge}
use Rattle.aut_base.specs.Formula.{met}
use Rattle.aut_base.specs.Word.{NameSet, copies}
use Rattle.autfilt_laws.proofs.refuted.Covering.{met_covering}
use Rattle.autfilt_laws.proofs.refuted.Searching.{Found, OrNot, both_or_not, less_or_not, listed_or_not, path_or_not, true_or_not, up_to_or_not}
use Rattle.autfilt_laws.proofs.refuted.Shortening.{StaysBelow, bound, end_below, shortened}

module _ (a : Automaton) (u v : List NameSet) where
  -- the path returns to its state, and its edges meet the condition
  abbrev Closes : ℕ → List LabelledEdge → ℕ → Type 0
  Closes q es r = (r ≡ q) × (met (marks_of es) a.formula ≡ true)

  abbrev Round : ℕ → ℕ → Type 0
  Round q k = (0 < k) × Found a q (copies k v) (Closes q)

  -- such a path of few rounds
  abbrev Recurs : ℕ → Type 0
  Recurs q = (k : ℕ) × (k ≤ bound a) × Round q k

  -- a path of few rounds to a state from which there is one
  abbrev Arrives : ℕ → ℕ → Type 0
  Arrives p j = Found a p (copies j v) (λ es q. Recurs q)

  abbrev Reaches : ℕ → Type 0
  Reaches p = (j : ℕ) × (j ≤ bound a) × Arrives p j

  -- with a path over the stem before it
  abbrev Starts : ℕ → Type 0
  Starts s = Found a s u (λ es p. Reaches p)

  closes_or_not : (q : ℕ) (es : List LabelledEdge) (r : ℕ) → OrNot (Closes q es r)
  closes_or_not q es r = both_or_not (cases_eq r q) (true_or_not (met (marks_of es) a.formula))

  recurs_or_not : (q : ℕ) → OrNot (Recurs q)
  recurs_or_not q = up_to_or_not (Round q) (λ k. both_or_not (less_or_not 0 k) (path_or_not a (copies k v) q (Closes q) (closes_or_not q))) (bound a)

  reaches_or_not : (p : ℕ) → OrNot (Reaches p)
  reaches_or_not p = up_to_or_not (Arrives p) (λ j. path_or_not a (copies j v) p (λ es q. Recurs q) (λ es q. recurs_or_not q)) (bound a)

  starts_or_not : (s : ℕ) → OrNot (Starts s)
  starts_or_not s = path_or_not a u s (λ es p. Reaches p) (λ es p. reaches_or_not p)

  abbrev Few : Type 0
  Few = (s : ℕ) × Contains a.starts s × Starts s

  accepted : 0 < length v → Few → Accepts a u v
  accepted endless h =
      let stem = h.2 in
      let stem_rounds = stem.holds in
      let path_edges = stem_rounds.2 in
      let cycle_rounds = path_edges.holds in
      let cycle = cycle_rounds.2.1 in
      record {
        endless = endless;
        start = h.0;
        state = path_edges.stop;
        stem_rounds = stem_rounds.0;
        cycle_rounds = cycle_rounds.0;
        path_edges = stem.path ++ path_edges.path;
        cycle = cycle.path;
        is_start = h.1;
        leads = path_join a h.0 stem.stop path_edges.stop u (copies stem_rounds.0 v) stem.path path_edges.path stem.leads path_edges.leads;
        positive = cycle_rounds.2.0;
        returns = subst (λ r. IsPath a path_edges.stop (copies cycle_rounds.0 v) cycle.path r) cycle.holds.0 cycle.leads;
        meets = cycle.holds.1;
      }

  few : StaysBelow a → ((s : ℕ) → Contains a.starts s → s < a.states) → Accepts a u v → Few
  few stays starts r =
      let halves = path_split a r.start r.state u (copies r.stem_rounds v) r.path_edges r.leads in
      let middle : halves.middle < a.states = end_below a stays r.start halves.middle u halves.front (starts r.start r.is_start) halves.first in
      let state : r.state < a.states = end_below a stays halves.middle r.state (copies r.stem_rounds v) halves.back middle halves.second in
      let path_edges = shortened a stays v r.stem_rounds halves.middle r.state r.stem_rounds halves.back (omega arith) middle halves.second in
      let cycle = shortened a stays v r.cycle_rounds r.state r.state r.cycle_rounds r.cycle (omega arith) state r.returns in
      let closed : Found a r.state (copies cycle.cycle_rounds v) (Closes r.state) = record {
        path = cycle.path;
        stop = r.state;
        leads = cycle.leads;
        holds = (refl, met_covering cycle.path r.cycle cycle.to cycle.from a.formula ∙ r.meets);
      } in
      let arrives : Found a halves.middle (copies path_edges.cycle_rounds v) (λ es q. Recurs q) = record {
        path = path_edges.path;
        stop = r.state;
        leads = path_edges.leads;
        holds = (cycle.cycle_rounds, cycle.few, (cycle.some r.positive, closed));
      } in
      (r.start, r.is_start, record { path = halves.front; stop = halves.middle; leads = halves.first; holds = (path_edges.cycle_rounds, path_edges.few, arrives) })

pub accepts_or_not : (a : Automaton) → IsWellFormed a → (u v : List NameSet) → 0 < length v → OrNot (Accepts a u v)
accepts_or_not a formed u v endless =
    let stays : StaysBelow a = λ e there. (All-contains (IsEdgeOf a) a.edges e formed.edges there).to in
    let starts : (s : ℕ) → Contains a.starts s → s < a.states = λ s there. All-contains (λ q. q < a.states) a.starts s formed.starts there in
    elim (listed_or_not (Starts a u v) (starts_or_not a u v) a.starts) [
      | inl h ↦ inl (accepted a u v endless h)
      | inr none ↦ inr (λ r. none (few a u v stays starts r))
    ]
