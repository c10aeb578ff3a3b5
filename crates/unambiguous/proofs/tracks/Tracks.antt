-- Tracks, which are paths by the indices of their edges, joined and split, and runs along them taken to a later closing state
-- and to more rounds of the cycle.
use Rattle.std.proofs.Common.{◌≡◌, ◌∙◌, ℕ, zero, suc, ◌+◌, ◌*◌, ◌<◌, true, List, [], ◌∷◌, ◌++◌, Contains, Some, ap, append_assoc, arith, length, map, refl, slice_get, subst, sym}
use Rattle.std.proofs.lemmas.List.{map-append}
use Rattle.std.proofs.lemmas.List.Folds.{list_all-append, list_any-append}
use Rattle.std.proofs.lemmas.Nat.{mul-lt}
use Rattle.std.specs.List.{list_all, list_any}
use Rattle.std.specs.Option.{option_map_or}
use Rattle.aut_base.proofs.lists.Copies.{copies-copies, copies-push, length-copies}
use Rattle.aut_base.proofs.words.SameEdges.{Alike, gone_alike, met_alike}
use Rattle.aut_base.proofs.numbers.Truth.{and_comm, or_comm}
use Rattle.aut_base.specs.Automaton.{Automaton, LabelledEdge}
use Rattle.aut_base.specs.Formula.{FormulaTree, met}
use Rattle.aut_base.specs.Label.{holds_at, truth}
use Rattle.aut_base.specs.Word.{NameSet, copies, nth}
use Rattle.unambiguous.proofs.tracks.Nth.{nth_copies, nth_turned}

-- the marks of the edge of this index
abbrev pub edge_marks : Automaton → ℕ → List ℕ
edge_marks a m = option_map_or (λ (e : LabelledEdge). e.marks) (slice_get a.edges m) []

-- a path from `p` to `q` along the edges of these indices, which reads these letters
abbrev pub IsEdgePath : Automaton → ℕ → List NameSet → List ℕ → ℕ → Type 0
IsEdgePath a p [] [] q = p ≡ q
IsEdgePath a p [] (m ∷ ms) q = ⊥
IsEdgePath a p (x ∷ xs) [] q = ⊥
IsEdgePath a p (x ∷ xs) (m ∷ ms) q =
    (e : LabelledEdge) × (slice_get a.edges m ≡ Some e) × (p ≡ e.from) × (truth (holds_at a.names x) e.label ≡ true) × IsEdgePath a e.to xs ms q

module _ (a : Automaton) where
  pub as_long : (p : ℕ) (xs : List NameSet) (ms : List ℕ) (q : ℕ) → IsEdgePath a p xs ms q → length ms ≡ length xs
  as_long p [] [] q track = refl
  as_long p [] (m ∷ ms) q track = absurd track
  as_long p (x ∷ xs) [] q track = absurd track
  as_long p (x ∷ xs) (m ∷ ms) q track = ap suc (as_long track.0.to xs ms q track.4)

  pub track_join : (p r q : ℕ) (xs ys : List NameSet) (ms ns : List ℕ) → IsEdgePath a p xs ms r → IsEdgePath a r ys ns q → IsEdgePath a p (xs ++ ys) (ms ++ ns) q
  track_join p r q [] ys [] ns first second = let P : ℕ → Type 0 = λ s. IsEdgePath a s ys ns q in subst P (sym first) second
  track_join p r q [] ys (m ∷ ms) ns first second = absurd first
  track_join p r q (x ∷ xs) ys [] ns first second = absurd first
  track_join p r q (x ∷ xs) ys (m ∷ ms) ns first second = (first.0, first.1, first.2, first.3, track_join first.0.to r q xs ys ms ns first.4 second)

  pub record Halves (p q : ℕ) (xs ys : List NameSet) (ms : List ℕ) : Type 0 where
    pub middle : ℕ
    pub front : List ℕ
    pub back : List ℕ
    pub parts : ms ≡ front ++ back
    pub first : IsEdgePath a p xs front middle
    pub second : IsEdgePath a middle ys back q

  pub track_split : (p q : ℕ) (xs ys : List NameSet) (ms : List ℕ) → IsEdgePath a p (xs ++ ys) ms q → Halves p q xs ys ms
  track_split p q [] ys ms track = record { middle = p; front = []; back = ms; parts = refl; first = refl; second = track }
  track_split p q (x ∷ xs) ys [] track = absurd track
  track_split p q (x ∷ xs) ys (m ∷ ms) track =
      let rest = track_split track.0.to q xs ys ms track.4 in
      record {
        middle = rest.middle;
        front = m ∷ rest.front;
        back = rest.back;
        parts = ap (λ (ns : List ℕ). m ∷ ns) rest.parts;
        first = (track.0, track.1, track.2, track.3, rest.first);
        second = rest.second;
      }

  track_copies : (q k : ℕ) (xs : List NameSet) (ms : List ℕ) → IsEdgePath a q xs ms q → IsEdgePath a q (copies k xs) (copies k ms) q
  track_copies q zero xs ms track = refl
  track_copies q (suc k) xs ms track = track_join q q q xs (copies k xs) ms (copies k ms) track (track_copies q k xs ms track)

  -- a run, accepting or not
  pub record Run (u v : List NameSet) (stem_rounds cycle_rounds : ℕ) : Type 0 where
    pub start : ℕ
    pub state : ℕ
    pub path_edges : List ℕ
    pub cycle : List ℕ
    pub is_start : Contains a.starts start
    pub leads : IsEdgePath a start (u ++ copies stem_rounds v) path_edges state
    pub returns : IsEdgePath a state (copies cycle_rounds v) cycle state

  -- a run along the same edges, whose cycle meets the same conditions
  pub record Likewise (u v : List NameSet) (stem_rounds cycle_rounds : ℕ) (path_edges cycle : List ℕ) : Type 0 where
    pub run : Run u v stem_rounds cycle_rounds
    pub alike : (f : FormulaTree) → met (map (edge_marks a) run.cycle) f ≡ met (map (edge_marks a) cycle) f
    pub same : (n : ℕ) → nth run.path_edges run.cycle n ≡ nth path_edges cycle n

  swapped_alike : {A : Type 0} (xs ys : List A) → Alike (ys ++ xs) (xs ++ ys)
  swapped_alike xs ys = record {
    some = λ p. list_any-append p ys xs ∙ (or_comm (list_any p ys) (list_any p xs) ∙ sym (list_any-append p xs ys));
    each = λ p. list_all-append p ys xs ∙ (and_comm (list_all p ys) (list_all p xs) ∙ sym (list_all-append p xs ys));
  }

  swapped : (xs ys ms : List ℕ) → ms ≡ xs ++ ys → (f : FormulaTree) → met (map (edge_marks a) (ys ++ xs)) f ≡ met (map (edge_marks a) ms) f
  swapped xs ys ms parts f =
      ap (λ cs. met cs f) (map-append (edge_marks a) ys xs)
      ∙ (met_alike (map (edge_marks a) ys ++ map (edge_marks a) xs) (map (edge_marks a) xs ++ map (edge_marks a) ys) (swapped_alike (map (edge_marks a) xs) (map (edge_marks a) ys)) f
      ∙ ap (λ cs. met cs f) (sym (map-append (edge_marks a) xs ys) ∙ ap (map (edge_marks a)) (sym parts)))

  module _ (u v : List NameSet) (endless : 0 < length v) where
    pub some_edges : (p q k : ℕ) (ms : List ℕ) → 0 < k → IsEdgePath a p (copies k v) ms q → 0 < length ms
    some_edges p q k ms positive track = omega (arith, as_long p (copies k v) ms q track, length-copies k v, mul-lt 0 0 k (length v) positive endless)

    -- the cycle is read once more before the run closes
    one_turn : (stem_rounds cycle_rounds : ℕ) (r : Run u v stem_rounds cycle_rounds) → 0 < cycle_rounds → Likewise u v (suc stem_rounds) cycle_rounds r.path_edges r.cycle
    one_turn stem_rounds zero r some = absurd (omega arith)
    one_turn stem_rounds (suc k) r some =
        let parts = track_split r.state r.state v (copies k v) r.cycle r.returns in
        let word : (u ++ copies stem_rounds v) ++ v ≡ u ++ copies (suc stem_rounds) v = append_assoc u (copies stem_rounds v) v ∙ ap (λ w. u ++ w) (copies-push stem_rounds v) in
        let P : List NameSet → Type 0 = λ w. IsEdgePath a r.start w (r.path_edges ++ parts.front) parts.middle in
        let Q : List NameSet → Type 0 = λ w. IsEdgePath a parts.middle w (parts.back ++ parts.front) parts.middle in
        let long : 0 < length (parts.front ++ parts.back) = subst (λ (ms : List ℕ). 0 < length ms) parts.parts (some_edges r.state r.state (suc k) r.cycle some r.returns) in
        record {
          run = record {
            start = r.start;
            state = parts.middle;
            path_edges = r.path_edges ++ parts.front;
            cycle = parts.back ++ parts.front;
            is_start = r.is_start;
            leads = subst P word (track_join r.start r.state parts.middle (u ++ copies stem_rounds v) v r.path_edges parts.front r.leads parts.first);
            returns = subst Q (copies-push k v) (track_join parts.middle r.state parts.middle (copies k v) v parts.back parts.front parts.second parts.first);
          };
          alike = swapped parts.front parts.back r.cycle parts.parts;
          same = λ n. nth_turned r.path_edges parts.front parts.back n long ∙ ap (λ ms. nth r.path_edges ms n) (sym parts.parts);
        }

    some_turns : (stem_rounds cycle_rounds k : ℕ) (r : Run u v stem_rounds cycle_rounds) → 0 < cycle_rounds → Likewise u v (stem_rounds + k) cycle_rounds r.path_edges r.cycle
    some_turns stem_rounds cycle_rounds zero r some =
        let e : stem_rounds ≡ stem_rounds + 0 = omega arith in
        let P : ℕ → Type 0 = λ n. Likewise u v n cycle_rounds r.path_edges r.cycle in
        subst P e (record { run = r; alike = λ f. refl; same = λ n. refl })
    some_turns stem_rounds cycle_rounds (suc k) r some =
        let once = one_turn stem_rounds cycle_rounds r some in
        let more = some_turns (suc stem_rounds) cycle_rounds k once.run some in
        let e : suc stem_rounds + k ≡ stem_rounds + suc k = omega arith in
        let P : ℕ → Type 0 = λ n. Likewise u v n cycle_rounds r.path_edges r.cycle in
        subst P e (record { run = more.run; alike = λ f. more.alike f ∙ once.alike f; same = λ n. more.same n ∙ once.same n })

    more_rounds : (stem_rounds cycle_rounds k : ℕ) (r : Run u v stem_rounds cycle_rounds) → 0 < cycle_rounds → 0 < k → Likewise u v stem_rounds (k * cycle_rounds) r.path_edges r.cycle
    more_rounds stem_rounds cycle_rounds k r positive some =
        let P : List NameSet → Type 0 = λ w. IsEdgePath a r.state w (copies k r.cycle) r.state in
        record {
          run = record {
            start = r.start;
            state = r.state;
            path_edges = r.path_edges;
            cycle = copies k r.cycle;
            is_start = r.is_start;
            leads = r.leads;
            returns = subst P (copies-copies k cycle_rounds v) (track_copies r.state k (copies cycle_rounds v) r.cycle r.returns);
          };
          alike = met_alike (map (edge_marks a) (copies k r.cycle)) (map (edge_marks a) r.cycle) (gone_alike (edge_marks a) k r.cycle some);
          same = λ n. nth_copies r.path_edges r.cycle k n some (some_edges r.state r.state cycle_rounds r.cycle positive r.returns);
        }

    -- k more turns before the run closes, and m times the rounds
    pub later : (stem_rounds cycle_rounds k m : ℕ) (r : Run u v stem_rounds cycle_rounds) → 0 < cycle_rounds → 0 < m → Likewise u v (stem_rounds + k) (m * cycle_rounds) r.path_edges r.cycle
    later stem_rounds cycle_rounds k m r some times =
        let first = some_turns stem_rounds cycle_rounds k r some in
        let second = more_rounds (stem_rounds + k) cycle_rounds m first.run some times in
        record { run = second.run; alike = λ f. second.alike f ∙ first.alike f; same = λ n. second.same n ∙ first.same n }
