-- Determinism and completeness of an automaton, by the edges of each state.
use Rattle.aut_base.proofs.order.AllPairsOf.{pairs_first, pairs_rest}
use Rattle.aut_base.proofs.order.Ordered.{any_kept, of_kept}
use Rattle.std.proofs.Common.{◌≡◌, ◌∙◌, ◌↔◌, ◌==◌, ◌<◌, ◌≤◌, ℕ, Bool, true, false, cond, IsTrue, List, [], ◌∷◌, All, AllPairs, Contains, ap, arith, get_or, leb, length, not, refl, subst, sym}
use Rattle.std.proofs.lemmas.Bool.{eq-eqb, eqb-false, eqb-true, false≢true, leb-true}
use Rattle.std.proofs.lemmas.List.Elements.{All-contains_itself, All-filter, All-tail, filter_passes}
use Rattle.std.proofs.lemmas.List.Folds.{Any-from_list_any}
use Rattle.std.proofs.lemmas.List.Kept.{AllPairs-cons, AllPairs-filter}
use Rattle.std.specs.List.{list_any}
use Rattle.aut_base.specs.Automaton.{Automaton, LabelledEdge}
use Rattle.aut_base.specs.Word.{NameSet}
use Rattle.aut_core.specs.Deterministic.{AreApart, HasSuccessor, GoesOneWay, IsComplete, IsDeterministic, is_met}
use Rattle.aut_core.specs.Surveys.{AreAllApart, AreSurveyed, IsFilled, edges_from}
use Rattle.aut_core.specs.declared.survey.GuardSurvey.{GuardSurvey}

-- the edges that leave q, of a list that begins with e
abbrev from_or : ℕ → LabelledEdge → List LabelledEdge → Bool → List LabelledEdge
from_or q e es b = cond b (e ∷ edges_from q es) (edges_from q es)

rest_of : (names : List (List ℕ)) (q : ℕ) (e : LabelledEdge) (es : List LabelledEdge) (b : Bool) → AllPairs (AreApart names) (from_or q e es b) → AllPairs (AreApart names) (edges_from q es)
rest_of names q e es true h = pairs_rest (AreApart names) e (edges_from q es) h
rest_of names q e es false h = h

apart_by_state : (names : List (List ℕ)) (states : ℕ) (es : List LabelledEdge) → All (λ e. e.from < states) es → ((q : ℕ) → q < states → AreAllApart names (edges_from q es))
    → AllPairs (λ d e. d.from ≡ e.from → AreApart names d e) es
apart_by_state names states [] within h = λ i j d l w. absurd (omega (arith, w))
apart_by_state names states (e ∷ es) within h =
    let here : AllPairs (AreApart names) (e ∷ edges_from e.from es) = subst (λ b. AllPairs (AreApart names) (from_or e.from e es b)) (eq-eqb e.from e.from refl)
    (h e.from (within 0 e (omega arith))) in
    let first : All (λ (d : LabelledEdge). (d.from == e.from) ≡ true → AreApart names e d) es =
    of_kept (AreApart names e) (λ (d : LabelledEdge). d.from == e.from) es (pairs_first (AreApart names) e (edges_from e.from es) here) in
    AllPairs-cons (λ d x. d.from ≡ x.from → AreApart names d x) e es
    (λ k o w same. first k o w (eq-eqb _ _ (sym same)))
    (apart_by_state names states es (All-tail (λ (d : LabelledEdge). d.from < states) e es within) (λ q l. rest_of names q e es (e.from == q) (h q l)))

state_by_apart : (names : List (List ℕ)) (es : List LabelledEdge) → AllPairs (λ d e. d.from ≡ e.from → AreApart names d e) es → (q : ℕ) → AreAllApart names (edges_from q es)
state_by_apart names es h q i j d l w =
    let same = filter_passes (λ (e : LabelledEdge). e.from == q) es in
    let first = eqb-true (get_or (edges_from q es) i d).from q (same i d (omega (arith, w, l))) in
    let second = eqb-true (get_or (edges_from q es) j d).from q (same j d w) in
    AllPairs-filter (λ d e. d.from ≡ e.from → AreApart names d e) (λ (e : LabelledEdge). e.from == q) es h i j d l w (first ∙ sym second)

pub deterministic_if : (a : Automaton) (b : Bool) → All (λ e. e.from < a.states) a.edges → length a.starts ≤ 1
    → (IsTrue b ↔ ((q : ℕ) → q < a.states → AreAllApart a.names (edges_from q a.edges))) → IsTrue b ↔ IsDeterministic a
deterministic_if a b within few is = (
  λ e. record { start = few; edges = apart_by_state a.names a.states a.edges within (is.0 e) },
  λ d. is.1 (λ q l. state_by_apart a.names a.edges d.edges q),
)

pub not_deterministic : (a : Automaton) (b : Bool) → 1 < length a.starts → b ≡ leb (length a.starts) 1 → IsTrue b ↔ IsDeterministic a
not_deterministic a b many is = (λ e. absurd (omega (arith, leb-true (length a.starts) 1 (sym is ∙ e))), λ d. absurd (omega (arith, d.start)))

has_successor : (a : Automaton) (q : ℕ) (letter : NameSet) → list_any (is_met a.names letter) (edges_from q a.edges) ≡ true → HasSuccessor a q letter
has_successor a q letter some =
    let found = Any-from_list_any (is_met a.names letter) (edges_from q a.edges) some in
    let from = filter_passes (λ (e : LabelledEdge). e.from == q) a.edges found.0 found.1 found.2 in
    let among = All-filter (λ (e : LabelledEdge). e.from == q) (Contains a.edges) a.edges (All-contains_itself a.edges) found.0 found.1 found.2 in
    record {
      edge = found.1;
      is_edge = subst (λ (e : LabelledEdge). Contains a.edges e) found.3 among;
      from = sym (ap (λ (e : LabelledEdge). e.from) found.3) ∙ eqb-true _ q from;
      meets = found.4;
    }

met_at : (a : Automaton) (q : ℕ) (letter : NameSet) → HasSuccessor a q letter → list_any (is_met a.names letter) (edges_from q a.edges) ≡ true
met_at a q letter on = any_kept (λ (e : LabelledEdge). e.from == q) (is_met a.names letter) a.edges on.is_edge.0 on.edge on.is_edge.1 on.is_edge.2 (eq-eqb on.edge.from q on.from) on.meets

pub complete_if : (a : Automaton) (b : Bool) → (length a.starts == 0) ≡ false → (IsTrue b ↔ ((q : ℕ) → q < a.states → IsFilled a.names (edges_from q a.edges))) → IsTrue b ↔ IsComplete a
complete_if a b some is = (
  λ e. record { start = omega (arith, eqb-false (length a.starts) 0 some); edges = λ q l letter. has_successor a q letter (is.0 e q l letter) },
  λ d. is.1 (λ q l letter. met_at a q letter (d.edges q l letter)),
)

pub not_complete : (a : Automaton) (b : Bool) → (length a.starts == 0) ≡ true → b ≡ not (length a.starts == 0) → IsTrue b ↔ IsComplete a
not_complete a b none is = (λ e. absurd (false≢true (sym (ap not none) ∙ (sym is ∙ e))), λ d. absurd (omega (arith, d.start, eqb-true (length a.starts) 0 none)))

-- Where each letter meets exactly one edge of every state, edges are disjoint and exhaustive.
pub one_way_surveyed : (a : Automaton) (found : GuardSurvey) → GoesOneWay a → found.disjoint ≡ true → found.exhaustive ≡ true → AreSurveyed a.names a.edges a.states found
one_way_surveyed a found one disjoint exhaustive = record {
  disjoint = (λ e q l. state_by_apart a.names a.edges one.disjoint q, λ h. disjoint);
  exhaustive = (λ e q l letter. met_at a q letter (one.on q l letter), λ h. exhaustive);
}
