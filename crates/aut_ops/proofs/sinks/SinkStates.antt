-- An automaton with a sink is complete, and deterministic where it was before.
use Rattle.std.proofs.Common.{◌≡◌, ◌∙◌, ◌⊎◌, ◌==◌, ◌<◌, ◌≤◌, ℕ, Bool, true, false, cond, not, List, [], ◌∷◌, ◌++◌, All, AllPairs, Contains, ap, arith, inl, inr, length, refl, subst, sym}
use Rattle.std.proofs.lemmas.Bool.{and_from, and_parts, cases_Bool, cases_lt, eq-eqb, eqb-false, eqb-true, false≢true, ne_eqb}
use Rattle.std.proofs.lemmas.List.{append-nil}
use Rattle.std.proofs.lemmas.List.Elements.{All-filter}
use Rattle.std.proofs.lemmas.List.Folds.{Any-from_list_any, list_any_at}
use Rattle.std.proofs.lemmas.List.Kept.{AllPairs-filter}
use Rattle.std.proofs.lemmas.List.Quantifiers.{all_pairs_push}
use Rattle.std.specs.List.{list_all, list_any, range_with_len}
use Rattle.aut_base.proofs.canonical.CanonicalAutomata.{labels_below}
use Rattle.aut_base.proofs.canonical.CanonicalBelow.{label_of_below}
use Rattle.aut_base.proofs.lists.Members.{each_from, each_is, from_filter, from_range, there_filter, there_range_zero}
use Rattle.aut_base.proofs.numbers.Truth.{true_from_not}
use Rattle.aut_base.specs.Automaton.{Automaton, IsWellFormed, LabelledEdge}
use Rattle.aut_base.specs.Label.{AllBelow, holds_at}
use Rattle.aut_base.specs.Valuation.{letter_of, truth_on}
use Rattle.aut_base.specs.Word.{NameSet}
use Rattle.aut_core.proofs.Deterministic.{deterministic_if}
use Rattle.aut_core.specs.Deterministic.{AreApart, HasSuccessor, IsComplete, IsDeterministic, is_met}
use Rattle.aut_core.specs.OtherNames.{AcceptTheSame}
use Rattle.aut_core.specs.Surveys.{AreAllApart, edges_from}
use Rattle.aut_ops.proofs.sinks.Completions.{edges_own, gap, gap_there, loop, loop_there, old_there, sink_row, state_row, with_sink_formed}
use Rattle.aut_ops.proofs.links.Labels.{at_letter, never_each, never_false, not_never, truth_none}
use Rattle.aut_ops.proofs.sinks.SinkRuns.{sink_keeps_language}
use Rattle.aut_ops.specs.Completion.{completed, lacks_nothing, missing_label, with_sink}
use Rattle.aut_ops.specs.Labels.{is_never}

module _ (a : Automaton) (formed : IsWellFormed a) where
  abbrev n : ℕ
  n = length a.names

  abbrev row : ℕ → List LabelledEdge
  row q = edges_from q a.edges

  row_below : (q : ℕ) → All (λ e. AllBelow n e.label) (row q)
  row_below q = All-filter (λ (e : LabelledEdge). e.from == q) (λ e. AllBelow n e.label) a.edges (labels_below a formed)

  gap_below : (q : ℕ) → AllBelow n (missing_label n (row q))
  gap_below q = label_of_below n (λ v. not (list_any (λ (e : LabelledEdge). truth_on e.label v) (row q)))

  gap_truth : (q : ℕ) (letter : NameSet) → is_met a.names letter (gap a q) ≡ not (list_any (is_met a.names letter) (row q))
  gap_truth q letter = truth_none n (holds_at a.names letter) (row q) (row_below q)

  -- completeness

  met_by_row : (q : ℕ) (letter : NameSet) → list_any (is_met a.names letter) (row q) ≡ true → HasSuccessor a q letter
  met_by_row q letter some =
      let found = Any-from_list_any (is_met a.names letter) (row q) some in
      let there : Contains (row q) found.1 = (found.0, found.2, found.3) in
      let old = from_filter (λ (e : LabelledEdge). e.from == q) a.edges found.1 there in
      record { edge = found.1; is_edge = old.0; from = eqb-true found.1.from q old.1; meets = found.4 }

  row_met : (q : ℕ) (letter : NameSet) → HasSuccessor a q letter → list_any (is_met a.names letter) (row q) ≡ true
  row_met q letter on =
      let there = there_filter (λ (e : LabelledEdge). e.from == q) a.edges on.edge on.is_edge (eq-eqb on.edge.from q on.from) in
      list_any_at (is_met a.names letter) (row q) there.0 on.edge there.1 (ap (is_met a.names letter) there.2 ∙ on.meets)

  has_successor : (q : ℕ) → q < a.states → (letter : NameSet) → HasSuccessor (with_sink a) q letter
  has_successor q less letter = by_cases (cases_Bool (list_any (is_met a.names letter) (row q)))
    where
      by_cases : (list_any (is_met a.names letter) (row q) ≡ true) ⊎ (list_any (is_met a.names letter) (row q) ≡ false) → HasSuccessor (with_sink a) q letter
      by_cases (inl some) =
          let on = met_by_row q letter some in
          record { edge = on.edge; is_edge = old_there a formed on.edge on.is_edge; from = on.from; meets = on.meets }
      by_cases (inr none) =
          let holds : is_met a.names letter (gap a q) ≡ true = gap_truth q letter ∙ ap not none in
          record { edge = gap a q; is_edge = gap_there a q less (not_never n (holds_at a.names letter) (missing_label n (row q)) (gap_below q) holds); from = refl; meets = holds }

  some_start : (b : Bool) → (length a.starts == 0) ≡ b → 0 < length (cond b (a.states ∷ []) a.starts)
  some_start true e = omega arith
  some_start false e = omega (arith, eqb-false (length a.starts) 0 e)

  with_sink_complete : IsComplete (with_sink a)
  with_sink_complete = record {
    start = some_start (length a.starts == 0) refl;
    edges = λ q less letter. elim (cases_lt q a.states) [
      | inl inside ↦ has_successor q inside letter
      | inr past ↦ record { edge = loop a; is_edge = loop_there a; from = omega (arith, less, past); meets = refl }
    ];
  }

  -- whether the automaton is complete as it is

  complete_lacks_nothing : IsComplete a → lacks_nothing a ≡ true
  complete_lacks_nothing is = and_from (not (length a.starts == 0)) _ (ap not (ne_eqb (length a.starts) 0 (λ e. absurd (omega (arith, is.start, e)))))
      (each_from (λ q. is_never n (missing_label n (row q))) (range_with_len 0 a.states) (λ q there.
      never_each n (missing_label n (row q)) (λ v long.
      sym (at_letter a.names (missing_label n (row q)) v formed.names_differ (gap_below q) long)
      ∙ (gap_truth q (letter_of a.names v) ∙ ap not (row_met q (letter_of a.names v) (is.edges q (omega (arith, from_range 0 a.states q there)) (letter_of a.names v)))))))

  lacking_nothing_complete : lacks_nothing a ≡ true → IsComplete a
  lacking_nothing_complete all =
      let parts = and_parts (not (length a.starts == 0)) (list_all (λ q. is_never n (missing_label n (row q))) (range_with_len 0 a.states)) all in
      record {
        start = elim (cases_Bool (length a.starts == 0)) [
          | inl none ↦ absurd (false≢true (sym (ap not none) ∙ parts.0))
          | inr some ↦ omega (arith, eqb-false (length a.starts) 0 some)
        ];
        edges = λ q less letter.
            let never = each_is (λ p. is_never n (missing_label n (row p))) (range_with_len 0 a.states) q parts.1 (there_range_zero a.states q less) in
            let fails = never_false n (holds_at a.names letter) (missing_label n (row q)) (gap_below q) never in
            met_by_row q letter (true_from_not (list_any (is_met a.names letter) (row q)) (sym fails ∙ gap_truth q letter));
      }

  -- determinism

  apart_alone : (names : List (List ℕ)) (e : LabelledEdge) → AllPairs (AreApart names) (e ∷ [])
  apart_alone names e i j d less within = absurd (omega (arith, less, within))

  filled_apart : (q : ℕ) → AllPairs (AreApart a.names) (row q) → (b : Bool) → AllPairs (AreApart a.names) (row q ++ cond b [] (gap a q ∷ []))
  filled_apart q apart true = subst (AllPairs (AreApart a.names)) (sym (append-nil (row q))) apart
  filled_apart q apart false = all_pairs_push (AreApart a.names) (row q) (gap a q) apart (λ k d within letter first second.
      false≢true (sym (gap_truth q letter ∙ ap not (list_any_at (is_met a.names letter) (row q) k d within first)) ∙ second))

  state_apart : IsDeterministic a → (q : ℕ) → q < (with_sink a).states → AreAllApart a.names (edges_from q (with_sink a).edges)
  state_apart is q less = elim (cases_lt q a.states) [
    | inl inside ↦ subst (AllPairs (AreApart a.names)) (sym (state_row a q inside)) (filled_apart q (row_apart is q) (is_never n (missing_label n (row q))))
    | inr past ↦ (let same : a.states ≡ q = omega (arith, less, past) in
        subst (λ p. AllPairs (AreApart a.names) (edges_from p (with_sink a).edges)) same (subst (AllPairs (AreApart a.names)) (sym (sink_row a)) (apart_alone a.names (loop a))))
  ]
    where
      row_apart : IsDeterministic a → (q : ℕ) → AllPairs (AreApart a.names) (row q)
      row_apart is q i j d less within =
          let own = edges_own q a.edges in
          AllPairs-filter (λ d e. d.from ≡ e.from → AreApart a.names d e) (λ (e : LabelledEdge). e.from == q) a.edges is.edges i j d less within
          (own i d (omega (arith, less, within)) ∙ sym (own j d within))

  few_starts : (b : Bool) → length a.starts ≤ 1 → length (cond b (a.states ∷ []) a.starts) ≤ 1
  few_starts true few = omega arith
  few_starts false few = few

  with_sink_deterministic : IsDeterministic a → IsDeterministic (with_sink a)
  with_sink_deterministic is =
      (deterministic_if (with_sink a) true (λ k d within. ((with_sink_formed a formed).edges k d within).from) (few_starts (length a.starts == 0) is.start) ((λ _. state_apart is), λ _. refl)).0 refl

  -- the completion

  -- it is the automaton itself, or the one with a sink
  pub completed_cases : (lacks_nothing a ≡ true) × (completed a ≡ a) ⊎ ((lacks_nothing a ≡ false) × (completed a ≡ with_sink a))
  completed_cases = elim (cases_Bool (lacks_nothing a)) [
    | inl whole ↦ inl (whole, ap (λ (b : Bool). cond b a (with_sink a)) whole)
    | inr lacking ↦ inr (lacking, ap (λ (b : Bool). cond b a (with_sink a)) lacking)
  ]

  pub completed_same : IsComplete a → completed a ≡ a
  completed_same is = ap (λ (b : Bool). cond b a (with_sink a)) (complete_lacks_nothing is)

  pub completed_other : (IsComplete a → ⊥) → completed a ≡ with_sink a
  completed_other isnt = elim (cases_Bool (lacks_nothing a)) [
    | inl whole ↦ absurd (isnt (lacking_nothing_complete whole))
    | inr lacking ↦ ap (λ (b : Bool). cond b a (with_sink a)) lacking
  ]

  completed_has : (P : Automaton → Type 0) → (IsComplete a → P a) → P (with_sink a) → P (completed a)
  completed_has P whole sunk = elim completed_cases [
    | inl same ↦ subst P (sym same.1) (whole (lacking_nothing_complete same.0))
    | inr other ↦ subst P (sym other.1) sunk
  ]

  pub completed_complete : IsComplete (completed a)
  completed_complete = completed_has IsComplete (λ is. is) with_sink_complete

  pub completed_deterministic : IsDeterministic a → IsDeterministic (completed a)
  completed_deterministic is = completed_has IsDeterministic (λ _. is) (with_sink_deterministic is)

  pub completed_accepts : AcceptTheSame (completed a) a
  completed_accepts = completed_has (λ c. AcceptTheSame c a) (λ _ u v. (λ r. r, λ r. r)) (sink_keeps_language a formed)

  pub completed_names : (completed a).names ≡ a.names
  completed_names = completed_has (λ c. c.names ≡ a.names) (λ _. refl) refl
