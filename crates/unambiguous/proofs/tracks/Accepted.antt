-- Accepting runs are the runs along tracks whose cycle meets the condition, and the edges of each acceptance have indices.
use Rattle.std.proofs.Common.{◌≡◌, ◌∙◌, ℕ, ◌<◌, true, List, [], ◌∷◌, ◌++◌, Contains, Option, Some, ap, length, map, refl, slice_get, sym}
use Rattle.std.proofs.lemmas.Simd.{map-map}
use Rattle.std.specs.Option.{option_map_or}
use Rattle.aut_base.proofs.lists.Members.{placed_there, there_at}
use Rattle.aut_base.specs.Acceptance.{Accepts, IsPath}
use Rattle.aut_base.specs.Automaton.{Automaton, LabelledEdge}
use Rattle.aut_base.specs.Formula.{met}
use Rattle.aut_base.specs.Word.{NameSet, copies}
use Rattle.unambiguous.proofs.tracks.Tracks.{IsEdgePath, Run, edge_marks}
use Rattle.unambiguous.specs.Laws.{RunsAreAcceptance}
use Rattle.unambiguous.specs.Runs.{AcceptingRun}

module _ (a : Automaton) where
  pub same_marks : (ms : List ℕ) (es : List LabelledEdge) → map (slice_get a.edges) ms ≡ map Some es → map (edge_marks a) ms ≡ map (λ (e : LabelledEdge). e.marks) es
  same_marks ms es at =
      let marks : Option LabelledEdge → List ℕ = λ o. option_map_or (λ (e : LabelledEdge). e.marks) o [] in
      sym (map-map marks (slice_get a.edges) ms) ∙ (ap (map marks) at ∙ map-map marks Some es)

  pub record Placed (p q : ℕ) (xs : List NameSet) (es : List LabelledEdge) : Type 0 where
    pub places : List ℕ
    pub track : IsEdgePath a p xs places q
    pub at : map (slice_get a.edges) places ≡ map Some es

  pub placed : (p q : ℕ) (xs : List NameSet) (es : List LabelledEdge) → IsPath a p xs es q → Placed p q xs es
  placed p q [] [] path = record { places = []; track = path; at = refl }
  placed p q [] (e ∷ es) path = absurd path
  placed p q (x ∷ xs) [] path = absurd path
  placed p q (x ∷ xs) (e ∷ es) path =
      let here = there_at a.edges e path.1 in
      let rest = placed e.to q xs es path.3 in
      record { places = here.0 ∷ rest.places; track = (e, here.1, path.0, path.2, rest.track); at = λ i. here.1 i ∷ rest.at i }

  -- a path is a track along the indices of its edges
  pub track_of : (p q : ℕ) (xs : List NameSet) (ms : List ℕ) (es : List LabelledEdge) → IsPath a p xs es q → map (slice_get a.edges) ms ≡ map Some es → IsEdgePath a p xs ms q
  track_of p q [] [] [] path at = path
  track_of p q [] (m ∷ ms) [] path at = absurd cc
  track_of p q [] ms (e ∷ es) path at = absurd path
  track_of p q (x ∷ xs) ms [] path at = absurd path
  track_of p q (x ∷ xs) [] (e ∷ es) path at = absurd cc
  track_of p q (x ∷ xs) (m ∷ ms) (e ∷ es) path at = (e, cc, path.0, path.2, track_of e.to q xs ms es path.3 cc)

  pub record Gone (p q : ℕ) (xs : List NameSet) (ms : List ℕ) : Type 0 where
    pub edges : List LabelledEdge
    pub path : IsPath a p xs edges q
    pub at : map (slice_get a.edges) ms ≡ map Some edges

  pub gone : (p q : ℕ) (xs : List NameSet) (ms : List ℕ) → IsEdgePath a p xs ms q → Gone p q xs ms
  gone p q [] [] track = record { edges = []; path = track; at = refl }
  gone p q [] (m ∷ ms) track = absurd track
  gone p q (x ∷ xs) [] track = absurd track
  gone p q (x ∷ xs) (m ∷ ms) track =
      let e = track.0 in
      let rest = gone e.to q xs ms track.4 in
      record { edges = e ∷ rest.edges; path = (track.2, placed_there a.edges m e track.1, track.3, rest.path); at = λ i. track.1 i ∷ rest.at i }

  -- the tracks of an accepting run, and an accepting run from its tracks

  abbrev pub run_of : (u v : List NameSet) (r : AcceptingRun a u v) → Run a u v r.accepted.stem_rounds r.accepted.cycle_rounds
  run_of u v r =
      let by = r.accepted in
      record {
        start = by.start;
        state = by.state;
        path_edges = r.path_edges;
        cycle = r.cycle;
        is_start = by.is_start;
        leads = track_of by.start by.state (u ++ copies by.stem_rounds v) r.path_edges by.path_edges by.leads r.path_at;
        returns = track_of by.state by.state (copies by.cycle_rounds v) r.cycle by.cycle by.returns r.cycle_at;
      }

  pub run_meets : (u v : List NameSet) (r : AcceptingRun a u v) → met (map (edge_marks a) r.cycle) a.formula ≡ true
  run_meets u v r = ap (λ cs. met cs a.formula) (same_marks r.cycle r.accepted.cycle r.cycle_at) ∙ r.accepted.meets

  abbrev pub accepting : (u v : List NameSet) (stem_rounds cycle_rounds : ℕ) (r : Run a u v stem_rounds cycle_rounds) → 0 < length v → 0 < cycle_rounds
      → met (map (edge_marks a) r.cycle) a.formula ≡ true → AcceptingRun a u v
  accepting u v stem_rounds cycle_rounds r endless positive meets =
      let path_edges = gone r.start r.state (u ++ copies stem_rounds v) r.path_edges r.leads in
      let cycle = gone r.state r.state (copies cycle_rounds v) r.cycle r.returns in
      record {
        accepted = record {
          endless = endless;
          start = r.start;
          state = r.state;
          stem_rounds = stem_rounds;
          cycle_rounds = cycle_rounds;
          path_edges = path_edges.edges;
          cycle = cycle.edges;
          is_start = r.is_start;
          leads = path_edges.path;
          positive = positive;
          returns = cycle.path;
          meets = ap (λ cs. met cs a.formula) (sym (same_marks r.cycle cycle.edges cycle.at)) ∙ meets;
        };
        path_edges = r.path_edges;
        cycle = r.cycle;
        path_at = path_edges.at;
        cycle_at = cycle.at;
      }

  to_run : (u v : List NameSet) → Accepts a u v → AcceptingRun a u v
  to_run u v r =
      let path_edges = placed r.start r.state (u ++ copies r.stem_rounds v) r.path_edges r.leads in
      let cycle = placed r.state r.state (copies r.cycle_rounds v) r.cycle r.returns in
      record { accepted = r; path_edges = path_edges.places; cycle = cycle.places; path_at = path_edges.at; cycle_at = cycle.at }

-- an accepting run of one automaton is one of another if its start is a start there, its indices make a path there, and the
-- marks there meet the other's condition
abbrev pub accepting_too : (a b : Automaton) (u v : List NameSet) (r : AcceptingRun a u v) → Contains b.starts r.accepted.start
    → IsEdgePath b r.accepted.start (u ++ copies r.accepted.stem_rounds v) r.path_edges r.accepted.state
    → IsEdgePath b r.accepted.state (copies r.accepted.cycle_rounds v) r.cycle r.accepted.state → met (map (edge_marks b) r.cycle) b.formula ≡ true → AcceptingRun b u v
accepting_too a b u v r is_start leads returns meets =
    let by = r.accepted in
    accepting b u v by.stem_rounds by.cycle_rounds
    (record { start = by.start; state = by.state; path_edges = r.path_edges; cycle = r.cycle; is_start = is_start; leads = leads; returns = returns }) by.endless by.positive meets

pub runs_are_acceptance : RunsAreAcceptance
runs_are_acceptance a u v = (to_run a u v, λ r. r.accepted)
