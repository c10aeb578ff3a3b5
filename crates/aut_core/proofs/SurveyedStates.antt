-- Surveys of links, one state after another.
use Rattle.std.proofs.Common.{◌≡◌, ◌↔◌, ◌<◌, ◌≤◌, ◌+◌, ◌==◌, ◌⊎◌, inl, inr, ⊎_elim, ℕ, Bool, IsTrue, List, arith, filter, map, subst, sym}
use Rattle.std.proofs.lemmas.Bool.{cases_lt}
use Rattle.aut_base.proofs.order.Ordered.{filter_map_of}
use Rattle.aut_base.specs.Automaton.{LabelledEdge}
use Rattle.label_guards.specs.Store.{Store}
use Rattle.aut_core.specs.SymbolicAutomata.{edge_of}
use Rattle.aut_core.specs.Surveys.{AreAllApart, AreSurveyed, IsFilled, IsSurvey, edges_from}
use Rattle.aut_core.specs.declared.link.Link.{Link}
use Rattle.aut_core.specs.declared.survey.GuardSurvey.{GuardSurvey}

below_cases : (n k : ℕ) → k < n + 1 → (k < n) ⊎ (n ≡ k)
below_cases n k l = ⊎_elim (λ (less : k < n). inl less) (λ (more : n ≤ k). inr (omega arith)) (cases_lt k n)

below_more : (P : ℕ → Type 0) (n : ℕ) (b c : Bool) → IsTrue b ↔ ((k : ℕ) → k < n → P k) → IsTrue c ↔ (IsTrue b × P n) → IsTrue c ↔ ((k : ℕ) → k < n + 1 → P k)
below_more P n b c f g = (
  λ e k l. let parts = g.0 e in ⊎_elim (λ (less : k < n). f.0 parts.0 k less) (λ (same : n ≡ k). subst P same parts.1) (below_cases n k l),
  λ h. g.1 (f.1 (λ k l. h k (omega arith)), h n (omega arith)),
)

-- The survey once another state is added.
pub surveyed_more : (names : List (List ℕ)) (s : Store) (links : List Link) (state : ℕ) (known found : GuardSurvey) → AreSurveyed names (map (edge_of s) links) state known
    → IsSurvey names (map (edge_of s) (filter (λ (l : Link). l.from == state) links)) known found → AreSurveyed names (map (edge_of s) links) (state + 1) found
surveyed_more names s links state known found so_far survey =
    let one : IsSurvey names (edges_from state (map (edge_of s) links)) known found =
    subst (λ (es : List LabelledEdge). IsSurvey names es known found) (sym (filter_map_of (λ (e : LabelledEdge). e.from == state) (edge_of s) links)) survey in
    record {
      disjoint = below_more (λ k. AreAllApart names (edges_from k (map (edge_of s) links))) state _ _ so_far.disjoint one.disjoint;
      exhaustive = below_more (λ k. IsFilled names (edges_from k (map (edge_of s) links))) state _ _ so_far.exhaustive one.exhaustive;
    }
