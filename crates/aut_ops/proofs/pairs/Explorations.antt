-- The invariant of exploring pairs, and what holds at the end.
use Rattle.std.proofs.Common.{◌≡◌, ◌≢◌, ◌∙◌, ◌==◌, ◌+◌, ◌<◌, ◌≤◌, ◌^◌, ℕ, List, [], ◌∷◌, ◌++◌, All, AllPairs, Contains, Some, ap, append-nil}
use Rattle.std.proofs.Common.{append_assoc, arith, filter, length, length-append, map, refl, slice_get, subst, sym, take}
use Rattle.std.proofs.lemmas.Grind.{flat_map-append}
use Rattle.std.proofs.lemmas.List.{map-append, take_all, take-append-le}
use Rattle.std.proofs.lemmas.List.Elements.{All-contains, All-weaker}
use Rattle.std.proofs.lemmas.List.Folds.{flat_map-map}
use Rattle.std.proofs.lemmas.List.Sums.{fold-append}
use Rattle.std.proofs.lemmas.Bool.{eqb-true}
use Rattle.std.proofs.lemmas.Option.{get_or_from_slice_get, slice_get_within}
use Rattle.std.specs.List.{AllZip}
use Rattle.std.specs.Prelude.{flat_map}
use Rattle.aut_base.proofs.lists.Lists.{map-flat_map, take-slice_get}
use Rattle.aut_base.proofs.lists.Members.{each_there, from_filter}
use Rattle.aut_base.specs.Automaton.{Automaton}
use Rattle.aut_core.proofs.Growth.{keeps_on}
use Rattle.aut_core.specs.SymbolicAutomata.{SymbolicAutomaton, IsWellFormedSymbolic, IsLinkOf, automaton_of, edge_of}
use Rattle.aut_core.specs.Surveys.{edges_from}
use Rattle.aut_core.specs.declared.link.Link.{Link}
use Rattle.label_guards.specs.Store.{Has, Keeps, Store}
use Rattle.aut_ops.proofs.pairs.BreadthFirst.{added, added_differ, added_each, once_differ, reached_next, reached_start}
use Rattle.aut_ops.proofs.sinks.FilledStates.{row_edges, row_have}
use Rattle.aut_ops.proofs.joint_runs.JointEdges.{reached_within}
use Rattle.aut_ops.proofs.pairs.Pairings.{ends}
use Rattle.aut_ops.proofs.pairs.Places.{pair_tells}
use Rattle.aut_ops.specs.BreadthFirst.{IsReachedFrom}
use Rattle.aut_ops.specs.inner.Parts.{once}
use Rattle.exploration.specs.Turns.{with_new}
use Rattle.aut_ops.specs.Products.{ArePairs, HasMorePairs, JointEdge, joint_edge, joint_edges, next_pairs, same_pair, start_pairs}
use Rattle.aut_ops.specs.inner.Pairings.{AddsJointEdges, AreBeyond, AreJointEdges, CanMeet, IsJointEdgeAt, PairingStage, followed, with_pairs}

-- The first `done` pairs were expanded.
pub record IsExplored (most : ℕ) (a b : SymbolicAutomaton) (old now : PairingStage) (done : ℕ) : Type 0 where
  pub first : Keeps a.store now.store
  pub second : Keeps b.store now.store
  pub in_turn : now.pairs ≡ once same_pair (start_pairs (automaton_of a) (automaton_of b) ++ ends (flat_map (joint_edges (automaton_of a) (automaton_of b)) (take done now.pairs)))
  pub edges : AreJointEdges now (flat_map (joint_edges (automaton_of a) (automaton_of b)) (take done now.pairs))
  pub reached : All (IsReachedFrom (start_pairs (automaton_of a) (automaton_of b)) (next_pairs (automaton_of a) (automaton_of b))) now.pairs
  pub within : done ≤ length now.pairs
  pub few : length now.pairs ≤ most
  pub longer : (rest : List (ℕ × ℕ)) × (now.pairs ≡ old.pairs ++ rest)

module _ (most : ℕ) (a b : SymbolicAutomaton) (core_a : IsWellFormedSymbolic a) (core_b : IsWellFormedSymbolic b) (names : b.names ≡ a.names) (fits : a.sets + b.sets < 2 ^ 32) where
  abbrev first : Automaton
  first = automaton_of a

  abbrev second : Automaton
  second = automaton_of b

  abbrev steps : ℕ × ℕ → List JointEdge
  steps = joint_edges first second

  abbrev Reached : ℕ × ℕ → Type 0
  Reached = IsReachedFrom (start_pairs first second) (next_pairs first second)

  pub explored_none : (old : PairingStage) → Keeps a.store old.store → Keeps b.store old.store → old.pairs ≡ once same_pair (start_pairs first second) → old.links ≡ [] → length old.pairs ≤ most
      → IsExplored most a b old old 0
  explored_none old one two starts none few = record {
    first = one;
    second = two;
    in_turn = starts ∙ ap (once same_pair) (sym (append-nil (start_pairs first second)));
    edges = record {
      has = subst (All (λ (l : Link). Has old.store l.guard)) (sym none) (λ k d within. absurd (omega (arith, within)));
      edges = subst (λ (ls : List Link). AllZip (IsJointEdgeAt old.pairs) (map (edge_of old.store) ls) []) (sym none) tt;
    };
    reached = subst (All Reached) (sym starts)
        (added_each same_pair pair_tells Reached [] (start_pairs first second) (λ k d within. absurd (omega (arith, within)))
        (each_there Reached (start_pairs first second) (reached_start (start_pairs first second) (next_pairs first second))));
    within = omega arith;
    few = few;
    longer = ([], sym (append-nil old.pairs));
  }

  -- the edges of a pair are the product edges of the links of its two states
  pub row_steps : (s : Store) (p q sets : ℕ) (firsts seconds : List Link) → Keeps a.store s → Keeps b.store s → sets ≡ a.sets → firsts ≡ filter (λ l. l.from == p) a.links
      → seconds ≡ filter (λ l. l.from == q) b.links → flat_map (followed s sets seconds) firsts ≡ steps (p, q)
  row_steps s p q sets firsts seconds one two at first_is second_is =
      let es : map (edge_of s) firsts ≡ edges_from p first.edges = row_edges a s p firsts core_a one first_is in
      let fs : map (edge_of s) seconds ≡ edges_from q second.edges = row_edges b s q seconds core_b two second_is in
      let count : s.names ≡ length a.names = one.names ∙ core_a.parts.store_names in
      let inner : (l : Link) → followed s sets seconds l ≡ flat_map (joint_edge s.names sets (edge_of s l)) (map (edge_of s) seconds) =
      λ l. sym (flat_map-map (joint_edge s.names sets (edge_of s l)) (edge_of s) seconds) in
      by_cases firsts inner ∙ (sym (flat_map-map (λ d. flat_map (joint_edge s.names sets d) (map (edge_of s) seconds)) (edge_of s) firsts)
      ∙ (λ i. flat_map (λ d. flat_map (joint_edge (count i) (at i) d) (fs i)) (es i)))
    where
      by_cases : (ls : List Link) → ((l : Link) → followed s sets seconds l ≡ flat_map (joint_edge s.names sets (edge_of s l)) (map (edge_of s) seconds))
          → flat_map (followed s sets seconds) ls ≡ flat_map (λ (l : Link). flat_map (joint_edge s.names sets (edge_of s l)) (map (edge_of s) seconds)) ls
      by_cases [] same = refl
      by_cases (l ∷ ls) same = ap (λ js. js ++ flat_map (followed s sets seconds) ls) (same l)
          ∙ ap (λ js. flat_map (joint_edge s.names sets (edge_of s l)) (map (edge_of s) seconds) ++ js) (by_cases ls same)

  -- the links of both states of a pair can be combined
  pub rows_can : (s : PairingStage) (at p q sets : ℕ) (firsts seconds : List Link) → Keeps a.store s.store → Keeps b.store s.store → sets ≡ a.sets → slice_get s.pairs at ≡ Some (p, q)
      → firsts ≡ filter (λ l. l.from == p) a.links → seconds ≡ filter (λ l. l.from == q) b.links → All (λ l. All (CanMeet s at sets l) seconds) firsts
  rows_can s at p q sets firsts seconds one two same place first_is second_is =
      let has_first = row_have a s.store p firsts core_a one first_is in
      let has_second = row_have b s.store q seconds core_b two second_is in
      each_there (λ l. All (CanMeet s at sets l) seconds) firsts (λ l there.
      each_there (CanMeet s at sets l) seconds (λ o there_too.
      let in_a = from_filter (λ (l : Link). l.from == p) a.links l (subst (λ (ls : List Link). Contains ls l) first_is there) in
      let in_b = from_filter (λ (l : Link). l.from == q) b.links o (subst (λ (ls : List Link). Contains ls o) second_is there_too) in
      let link = All-contains (IsLinkOf a) a.links l core_a.parts.links in_a.0 in
      let other = All-contains (IsLinkOf b) b.links o core_b.parts.links in_b.0 in
      let from : l.from ≡ p = eqb-true l.from p in_a.1 in
      let from_too : o.from ≡ q = eqb-true o.from q in_b.1 in
      record {
        first = All-contains (λ (m : Link). Has s.store m.guard) firsts l has_first there;
        second = All-contains (λ (m : Link). Has s.store m.guard) seconds o has_second there_too;
        place = place ∙ (λ i. Some (sym from i, sym from_too i));
        marks = All-weaker (λ m. m < a.sets) (λ m. m < sets) (λ m low. omega (arith, low, same)) l.marks link.marks;
        others = All-weaker (λ m. m < b.sets) (λ m. m + sets < 2 ^ 32) (λ m low. omega (arith, low, same, fits)) o.marks other.marks;
      }))

  -- another pair is expanded
  pub explored_more : (old s t : PairingStage) (done p q : ℕ) (js : List JointEdge) → IsExplored most a b old s done → slice_get s.pairs done ≡ Some (p, q) → AddsJointEdges s t js → js ≡ steps (p, q)
      → length t.pairs ≤ most → IsExplored most a b old t (done + 1)
  explored_more old s t done p q js so_far at adds same few =
      let long = added same_pair pair_tells s.pairs (ends js) in
      let grown : t.pairs ≡ s.pairs ++ long.0 = adds.pairs ∙ long.1 in
      let in_old : done < length s.pairs = slice_get_within s.pairs done (p, q) at in
      let step : done + 1 ≤ length s.pairs = omega (arith, in_old) in
      let front : take (done + 1) t.pairs ≡ take done s.pairs ++ (p, q) ∷ [] = ap (take (done + 1)) grown ∙ (take-append-le (done + 1) s.pairs long.0 step ∙ take-slice_get s.pairs done (p, q) at) in
      let whole : flat_map steps (take (done + 1) t.pairs) ≡ flat_map steps (take done s.pairs) ++ js =
      ap (flat_map steps) front ∙ (flat_map-append steps (take done s.pairs) ((p, q) ∷ []) ∙ ap (λ ks. flat_map steps (take done s.pairs) ++ ks) (append-nil (steps (p, q)) ∙ sym same)) in
      let pair : Reached (p, q) = subst Reached (get_or_from_slice_get s.pairs done (p, q) (p, q) at) (so_far.reached done (p, q) in_old) in
      record {
        first = keeps_on so_far.first adds.keeps;
        second = keeps_on so_far.second adds.keeps;
        in_turn = adds.pairs ∙ (ap (λ ps. with_pairs ps (ends js)) so_far.in_turn
            ∙ (sym (fold-append (with_new same_pair) [] (start_pairs first second ++ ends (flat_map steps (take done s.pairs))) (ends js))
            ∙ ap (once same_pair) (append_assoc (start_pairs first second) (ends (flat_map steps (take done s.pairs))) (ends js)
            ∙ ap (λ ys. start_pairs first second ++ ys) (sym (map-append (λ (j : JointEdge). j.to) (flat_map steps (take done s.pairs)) js) ∙ ap ends (sym whole)))));
        edges = subst (AreJointEdges t) (sym whole) (adds.links (flat_map steps (take done s.pairs)) so_far.edges);
        reached = subst (All Reached) (sym adds.pairs)
            (added_each same_pair pair_tells Reached s.pairs (ends js) so_far.reached
            (each_there Reached (ends js) (λ x there. reached_next (start_pairs first second) (next_pairs first second) (p, q) x pair (subst (λ ks. Contains (ends ks) x) same there))));
        within = omega (arith, step, ap (λ (xs : List (ℕ × ℕ)). length xs) grown, length-append s.pairs long.0);
        few = few;
        longer = (so_far.longer.0 ++ long.0, grown ∙ (ap (λ (xs : List (ℕ × ℕ)). xs ++ long.0) so_far.longer.1 ∙ append_assoc old.pairs so_far.longer.0 long.0));
      }

  -- more pairs than the limit, found while a pair is expanded
  pub explored_beyond : (old s : PairingStage) (done p q : ℕ) (js : List JointEdge) → IsExplored most a b old s done → slice_get s.pairs done ≡ Some (p, q) → js ≡ steps (p, q)
      → AreBeyond most s.pairs (ends js) → HasMorePairs most first second
  explored_beyond old s done p q js so_far at same beyond =
      let in_old : done < length s.pairs = slice_get_within s.pairs done (p, q) at in
      let pair : Reached (p, q) = subst Reached (get_or_from_slice_get s.pairs done (p, q) (p, q) at) (so_far.reached done (p, q) in_old) in
      record {
        pairs = with_pairs s.pairs beyond.some;
        differ = added_differ same_pair pair_tells s.pairs beyond.some
            (subst (AllPairs (λ x y. x ≢ y)) (sym so_far.in_turn) (once_differ same_pair pair_tells (start_pairs first second ++ ends (flat_map steps (take done s.pairs)))));
        reached = added_each same_pair pair_tells Reached s.pairs beyond.some so_far.reached
            (All-weaker (Contains (ends js)) Reached (λ x there. reached_next (start_pairs first second) (next_pairs first second) (p, q) x pair
            (subst (λ ks. Contains (ends ks) x) same there)) beyond.some beyond.among);
        more = beyond.many;
      }

  -- more pairs of starts than the limit
  pub starts_beyond : AreBeyond most [] (start_pairs first second) → HasMorePairs most first second
  starts_beyond beyond = record {
    pairs = with_pairs [] beyond.some;
    differ = once_differ same_pair pair_tells beyond.some;
    reached = added_each same_pair pair_tells Reached [] beyond.some (λ k d within. absurd (omega (arith, within)))
        (All-weaker (Contains (start_pairs first second)) Reached (λ x there. reached_start (start_pairs first second) (next_pairs first second) x there) beyond.some beyond.among);
    more = beyond.many;
  }

  -- the two states of a listed pair are in range
  pub pair_within : (old s : PairingStage) (done p q : ℕ) → IsExplored most a b old s done → slice_get s.pairs done ≡ Some (p, q) → (p < a.states) × (q < b.states)
  pair_within old s done p q so_far at =
      let in_old : done < length s.pairs = slice_get_within s.pairs done (p, q) at in
      reached_within first second core_a.well_formed core_b.well_formed (p, q) (subst Reached (get_or_from_slice_get s.pairs done (p, q) (p, q) at) (so_far.reached done (p, q) in_old))

  -- all pairs were expanded
  pub explored_all : (old s : PairingStage) (done : ℕ) → IsExplored most a b old s done → length s.pairs ≤ done → ArePairs first second s.pairs × AreJointEdges s (flat_map steps s.pairs)
  explored_all old s done so_far end =
      let all : take done s.pairs ≡ s.pairs = take_all done s.pairs end in (
        record {
          in_turn = so_far.in_turn ∙ ap (λ ys. once same_pair (start_pairs first second ++ ys)) (ap (λ ps. ends (flat_map steps ps)) all ∙ map-flat_map (λ (j : JointEdge). j.to) steps s.pairs);
          reached = so_far.reached;
        },
        subst (λ ps. AreJointEdges s (flat_map steps ps)) all so_far.edges,
      )
