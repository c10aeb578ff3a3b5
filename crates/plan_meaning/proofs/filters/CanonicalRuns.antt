-- Runs as lists of edge indices are the same under canonical labels.
use Rattle.std.proofs.Common.{◌≡◌, ◌∙◌, ℕ, List, [], ◌∷◌, Option, Some, None, ap, map, refl, subst, sym}
use Rattle.std.specs.Option.{option_map, option_map_or}
use Rattle.std.specs.Prelude.{slice_get}
use Rattle.std.proofs.lemmas.Option.{slice_get-map}
use Rattle.aut_base.proofs.lists.Members.{placed_there}
use Rattle.aut_base.specs.Automaton.{Automaton, LabelledEdge}
use Rattle.aut_base.specs.CanonicalLabel.{canonical}
use Rattle.aut_base.specs.Formula.{met}
use Rattle.aut_base.specs.LabelLaws.{LabelsBelow}
use Rattle.aut_base.specs.Word.{NameSet}
use Rattle.aut_core.specs.Deterministic.{is_met}
use Rattle.plan_meaning.proofs.filters.CanonicalEdges.{same_met, settled}
use Rattle.unambiguous.proofs.tracks.Accepted.{accepting_too, run_meets, run_of}
use Rattle.unambiguous.proofs.tracks.Tracks.{IsEdgePath, edge_marks}
use Rattle.unambiguous.specs.Runs.{AcceptingRun, IsUnambiguous}

-- the edge of an index, in both automata
place_to : (a : Automaton) (m : ℕ) (e : LabelledEdge) → slice_get a.edges m ≡ Some e → slice_get (canonical a).edges m ≡ Some (settled a e)
place_to a m e there = slice_get-map (settled a) a.edges m ∙ ap (option_map (settled a)) there

place_from : (a : Automaton) (m : ℕ) (f : LabelledEdge) → slice_get (canonical a).edges m ≡ Some f → (e : LabelledEdge) × (slice_get a.edges m ≡ Some e) × (settled a e ≡ f)
place_from a m f there = by_cases (slice_get a.edges m) refl
  where
    by_cases : (o : Option LabelledEdge) → slice_get a.edges m ≡ o → (e : LabelledEdge) × (slice_get a.edges m ≡ Some e) × (settled a e ≡ f)
    by_cases None is = let none : None ≡ Some f = sym (slice_get-map (settled a) a.edges m ∙ ap (option_map (settled a)) is) ∙ there in cc
    by_cases (Some e) is = let same : Some (settled a e) ≡ Some f = sym (place_to a m e is) ∙ there in (e, is, cc)

same_marks : (a : Automaton) (m : ℕ) → edge_marks (canonical a) m ≡ edge_marks a m
same_marks a m = ap (λ (o : Option LabelledEdge). option_map_or (λ (e : LabelledEdge). e.marks) o []) (slice_get-map (settled a) a.edges m) ∙ by_cases (slice_get a.edges m)
  where
    by_cases : (o : Option LabelledEdge) → option_map_or (λ (e : LabelledEdge). e.marks) (option_map (settled a) o) [] ≡ option_map_or (λ (e : LabelledEdge). e.marks) o []
    by_cases None = refl
    by_cases (Some e) = refl

all_marks : (a : Automaton) (ms : List ℕ) → map (edge_marks (canonical a)) ms ≡ map (edge_marks a) ms
all_marks a [] = refl
all_marks a (m ∷ ms) = λ i. same_marks a m i ∷ all_marks a ms i

module _ (a : Automaton) (below : LabelsBelow a) where
  track_to : (p q : ℕ) (xs : List NameSet) (ms : List ℕ) → IsEdgePath a p xs ms q → IsEdgePath (canonical a) p xs ms q
  track_to p q [] [] h = h
  track_to p q [] (m ∷ ms) h = h
  track_to p q (x ∷ xs) [] h = h
  track_to p q (x ∷ xs) (m ∷ ms) h = (
    settled a h.0,
    place_to a m h.0 h.1,
    h.2,
    same_met a h.0 x below (placed_there a.edges m h.0 h.1) ∙ h.3,
    track_to h.0.to q xs ms h.4,
  )

  track_from : (p q : ℕ) (xs : List NameSet) (ms : List ℕ) → IsEdgePath (canonical a) p xs ms q → IsEdgePath a p xs ms q
  track_from p q [] [] h = h
  track_from p q [] (m ∷ ms) h = h
  track_from p q (x ∷ xs) [] h = h
  track_from p q (x ∷ xs) (m ∷ ms) h =
      let was = place_from a m h.0 h.1 in (
        was.0,
        was.1,
        h.2 ∙ sym (ap (λ (e : LabelledEdge). e.from) was.2),
        sym (same_met a was.0 x below (placed_there a.edges m was.0 was.1)) ∙ (ap (is_met a.names x) was.2 ∙ h.3),
        subst (λ (r : ℕ). IsEdgePath a r xs ms q) (sym (ap (λ (e : LabelledEdge). e.to) was.2)) (track_from h.0.to q xs ms h.4),
      )

  -- the same indices make a run of both automata
  abbrev run_to : (u v : List NameSet) → AcceptingRun a u v → AcceptingRun (canonical a) u v
  run_to u v r =
      let run = run_of a u v r in
      accepting_too a (canonical a) u v r run.is_start (track_to run.start run.state _ run.path_edges run.leads) (track_to run.state run.state _ run.cycle run.returns)
      (ap (λ (ms : List (List ℕ)). met ms a.formula) (all_marks a run.cycle) ∙ run_meets a u v r)

  abbrev run_from : (u v : List NameSet) → AcceptingRun (canonical a) u v → AcceptingRun a u v
  run_from u v r =
      let run = run_of (canonical a) u v r in
      accepting_too (canonical a) a u v r run.is_start (track_from run.start run.state _ run.path_edges run.leads) (track_from run.state run.state _ run.cycle run.returns)
      (sym (ap (λ (ms : List (List ℕ)). met ms a.formula) (all_marks a run.cycle)) ∙ run_meets (canonical a) u v r)

  pub unambiguous_one : IsUnambiguous (canonical a) → IsUnambiguous a
  unambiguous_one h = λ u v r t n. h u v (run_to u v r) (run_to u v t) n

  pub unambiguous_other : IsUnambiguous a → IsUnambiguous (canonical a)
  unambiguous_other h = λ u v r t n. h u v (run_from u v r) (run_from u v t) n
