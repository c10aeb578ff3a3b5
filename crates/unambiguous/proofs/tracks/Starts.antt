-- The first edge of a run fixes its start.
use Rattle.std.proofs.Common.{◌≡◌, ◌∙◌, ℕ, ◌<◌, List, [], ◌∷◌, ◌++◌, Some, ap, arith, length, slice_get, sym}
use Rattle.std.proofs.lemmas.Option.{same_Some}
use Rattle.aut_base.specs.Automaton.{Automaton, LabelledEdge}
use Rattle.aut_base.specs.Word.{NameSet, copies, nth}
use Rattle.aut_base.proofs.words.Spelled.{word_letter}
use Rattle.unambiguous.proofs.tracks.Accepted.{run_of}
use Rattle.unambiguous.proofs.tracks.Tracks.{IsEdgePath, some_edges}
use Rattle.unambiguous.specs.Laws.{PlacesFixStart}
use Rattle.unambiguous.specs.Runs.{AcceptingRun}

module _ (a : Automaton) where
  pub record Begins (p : ℕ) (ms ns : List ℕ) : Type 0 where
    pub place : ℕ
    pub edge : LabelledEdge
    pub at : slice_get a.edges place ≡ Some edge
    pub from : p ≡ edge.from
    pub is_first : nth ms ns 0 ≡ Some place

  pub begins : (p q r : ℕ) (xs ys : List NameSet) (ms ns : List ℕ) → IsEdgePath a p xs ms q → IsEdgePath a q ys ns r → 0 < length ns → Begins p ms ns
  begins p q r xs ys ms [] one two some = absurd (omega (arith, some))
  begins p q r xs [] ms (n ∷ ns) one two some = absurd two
  begins p q r [] (y ∷ ys) [] (n ∷ ns) one two some = record { place = n; edge = two.0; at = two.1; from = one ∙ two.2; is_first = word_letter [] (n ∷ ns) 1 0 some (omega arith) }
  begins p q r [] (y ∷ ys) (m ∷ ms) (n ∷ ns) one two some = absurd one
  begins p q r (x ∷ xs) (y ∷ ys) [] (n ∷ ns) one two some = absurd one
  begins p q r (x ∷ xs) (y ∷ ys) (m ∷ ms) (n ∷ ns) one two some = record { place = m; edge = one.0; at = one.1; from = one.2; is_first = word_letter (m ∷ ms) (n ∷ ns) 1 0 some (omega arith) }

  begun : (u v : List NameSet) (r : AcceptingRun a u v) → Begins r.accepted.start r.path_edges r.cycle
  begun u v r =
      let by = r.accepted in
      let run = run_of a u v r in
      begins run.start run.state run.state (u ++ copies by.stem_rounds v) (copies by.cycle_rounds v) run.path_edges run.cycle run.leads run.returns
      (some_edges a u v by.endless run.state run.state by.cycle_rounds run.cycle by.positive run.returns)

pub places_fix_start : PlacesFixStart
places_fix_start a u v r t same =
    let mine = begun a u v r in
    let his = begun a u v t in
    let place : mine.place ≡ his.place = same_Some mine.place his.place (sym mine.is_first ∙ (same 0 ∙ his.is_first)) in
    let edge : mine.edge ≡ his.edge = same_Some mine.edge his.edge (sym mine.at ∙ (ap (slice_get a.edges) place ∙ his.at)) in
    mine.from ∙ (ap (λ (e : LabelledEdge). e.from) edge ∙ sym his.from)
