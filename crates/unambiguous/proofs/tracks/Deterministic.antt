-- Deterministic automata are unambiguous, and one that lists an edge twice isn't.
use Rattle.std.proofs.Common.{◌≡◌, ◌∙◌, ℕ, ◌+◌, ◌*◌, ◌<◌, true, List, [], ◌∷◌, ◌++◌, Contains, Some, ap, arith, get_or, inl, inr, refl, slice_get, subst, sym}
use Rattle.std.proofs.Math.Nat.{mul_comm}
use Rattle.std.proofs.lemmas.Bool.{cases_lt}
use Rattle.std.proofs.lemmas.Option.{get_or_from_slice_get, same_Some, slice_get_within}
use Rattle.std.specs.FinSet.{empty}
use Rattle.aut_base.proofs.lists.Members.{first_there, there_at}
use Rattle.aut_base.specs.Automaton.{Automaton, LabelledEdge}
use Rattle.aut_base.specs.Label.{holds_at, truth}
use Rattle.aut_base.specs.Word.{NameSet, copies, nth}
use Rattle.aut_core.specs.Deterministic.{IsDeterministic}
use Rattle.unambiguous.proofs.tracks.Accepted.{accepting, run_of}
use Rattle.unambiguous.proofs.tracks.Tracks.{IsEdgePath, later}
use Rattle.unambiguous.specs.Laws.{DeterministicIsUnambiguous, TwiceIsAmbiguous, self_loop, twice}
use Rattle.unambiguous.specs.Runs.{AcceptingRun, IsUnambiguous}

module _ (a : Automaton) (det : IsDeterministic a) where
  -- at most one start
  one_start : (p q : ℕ) → Contains a.starts p → Contains a.starts q → p ≡ q
  one_start p q one two =
      let here = there_at a.starts p one in
      let there = there_at a.starts q two in
      let place : here.0 ≡ there.0 = omega (arith, det.start, slice_get_within a.starts here.0 p here.1, slice_get_within a.starts there.0 q there.1) in
      same_Some p q (sym here.1 ∙ (ap (slice_get a.starts) place ∙ there.1))

  -- and at most one edge index that can be taken from a state at a letter
  one_place : (m n : ℕ) (f g : LabelledEdge) (x : NameSet) → slice_get a.edges m ≡ Some f → slice_get a.edges n ≡ Some g → f.from ≡ g.from → truth (holds_at a.names x) f.label ≡ true
      → truth (holds_at a.names x) g.label ≡ true → m ≡ n
  one_place m n f g x at there from first second = elim (cases_lt m n) [
    | inl before ↦ absurd (clash m n f g at there before from first second)
    | inr later ↦ elim (cases_lt n m) [
      | inl behind ↦ absurd (clash n m g f there at behind (sym from) second first)
      | inr not_behind ↦ omega (arith, later, not_behind)
    ]
  ]
    where
      clash : (m n : ℕ) (f g : LabelledEdge) → slice_get a.edges m ≡ Some f → slice_get a.edges n ≡ Some g → m < n → f.from ≡ g.from → truth (holds_at a.names x) f.label ≡ true
          → truth (holds_at a.names x) g.label ≡ true → ⊥
      clash m n f g at there before from first second =
          let is_first : get_or a.edges m f ≡ f = get_or_from_slice_get a.edges m f f at in
          let is_second : get_or a.edges n f ≡ g = get_or_from_slice_get a.edges n g f there in
          det.edges m n f before (slice_get_within a.edges n g there) (ap (λ (e : LabelledEdge). e.from) is_first ∙ (from ∙ sym (ap (λ (e : LabelledEdge). e.from) is_second))) x
          (ap (λ (e : LabelledEdge). truth (holds_at a.names x) e.label) is_first ∙ first) (ap (λ (e : LabelledEdge). truth (holds_at a.names x) e.label) is_second ∙ second)

  record Same (ms ns : List ℕ) (q r : ℕ) : Type 0 where
    places : ms ≡ ns
    ends : q ≡ r

  same : (p q r : ℕ) (xs : List NameSet) (ms ns : List ℕ) → IsEdgePath a p xs ms q → IsEdgePath a p xs ns r → Same ms ns q r
  same p q r [] [] [] one two = record { places = refl; ends = sym one ∙ two }
  same p q r [] [] (n ∷ ns) one two = absurd two
  same p q r [] (m ∷ ms) ns one two = absurd one
  same p q r (x ∷ xs) [] ns one two = absurd one
  same p q r (x ∷ xs) (m ∷ ms) [] one two = absurd two
  same p q r (x ∷ xs) (m ∷ ms) (n ∷ ns) one two =
      let place : m ≡ n = one_place m n one.0 two.0 x one.1 two.1 (sym one.2 ∙ two.2) one.3 two.3 in
      let edge : one.0 ≡ two.0 = same_Some one.0 two.0 (sym one.1 ∙ (ap (slice_get a.edges) place ∙ two.1)) in
      let rest = same two.0.to q r xs ms ns (subst (λ (e : LabelledEdge). IsEdgePath a e.to xs ms q) edge one.4) two.4 in
      record { places = ap (λ k. k ∷ ms) place ∙ ap (λ ks. n ∷ ks) rest.places; ends = rest.ends }

  unambiguous : IsUnambiguous a
  unambiguous u v r t n =
      let one = r.accepted in
      let two = t.accepted in
      let mine = later a u v one.endless one.stem_rounds one.cycle_rounds two.stem_rounds two.cycle_rounds (run_of a u v r) one.positive two.positive in
      let his = later a u v two.endless two.stem_rounds two.cycle_rounds one.stem_rounds one.cycle_rounds (run_of a u v t) two.positive one.positive in
      let stem_rounds : two.stem_rounds + one.stem_rounds ≡ one.stem_rounds + two.stem_rounds = omega arith in
      let cycle_rounds : one.cycle_rounds * two.cycle_rounds ≡ two.cycle_rounds * one.cycle_rounds = mul_comm one.cycle_rounds two.cycle_rounds in
      let start : his.run.start ≡ mine.run.start = one_start his.run.start mine.run.start his.run.is_start mine.run.is_start in
      let leads : IsEdgePath a mine.run.start (u ++ copies (one.stem_rounds + two.stem_rounds) v) his.run.path_edges his.run.state =
      subst (λ p. IsEdgePath a p (u ++ copies (one.stem_rounds + two.stem_rounds) v) his.run.path_edges his.run.state)
      start (subst (λ k. IsEdgePath a his.run.start (u ++ copies k v) his.run.path_edges his.run.state) stem_rounds his.run.leads) in
      let ways = same mine.run.start mine.run.state his.run.state (u ++ copies (one.stem_rounds + two.stem_rounds) v) mine.run.path_edges his.run.path_edges mine.run.leads leads in
      let returns : IsEdgePath a mine.run.state (copies (two.cycle_rounds * one.cycle_rounds) v) his.run.cycle his.run.state =
      subst (λ p. IsEdgePath a p (copies (two.cycle_rounds * one.cycle_rounds) v) his.run.cycle his.run.state)
      (sym ways.ends) (subst (λ k. IsEdgePath a his.run.state (copies k v) his.run.cycle his.run.state) cycle_rounds his.run.returns) in
      let cycles = same mine.run.state mine.run.state his.run.state (copies (two.cycle_rounds * one.cycle_rounds) v) mine.run.cycle his.run.cycle mine.run.returns returns in
      sym (mine.same n) ∙ (ap (λ ws. nth ws mine.run.cycle n) ways.places ∙ (ap (λ cs. nth his.run.path_edges cs n) cycles.places ∙ his.same n))

pub deterministic_is_unambiguous : DeterministicIsUnambiguous
deterministic_is_unambiguous a det = unambiguous a det

abbrev round_at : (x : NameSet) (m : ℕ) → slice_get twice.edges m ≡ Some self_loop → AcceptingRun twice [] (x ∷ [])
round_at x m at = accepting twice [] (x ∷ []) 0 1
    (record { start = 0; state = 0; path_edges = []; cycle = m ∷ []; is_start = first_there 0 []; leads = refl; returns = (self_loop, at, refl, refl, refl) }) (omega arith) (omega arith) refl

pub twice_is_ambiguous : TwiceIsAmbiguous
twice_is_ambiguous alone =
    let x : NameSet = empty in
    let same : 0 ≡ 1 = same_Some 0 1 (alone [] (x ∷ []) (round_at x 0 refl) (round_at x 1 refl) 0) in
    absurd (omega (arith, same))
