-- Lists of edges made state by state.
use Rattle.std.proofs.Common.{◌≡◌, ◌≢◌, ◌∙◌, ◌==◌, ◌+◌, ◌<◌, ◌≤◌, ℕ, zero, suc, true, false, List, [], ◌++◌, ap, append-nil, arith, inl, inr, refl, subst, sym}
use Rattle.std.proofs.lemmas.Bool.{cases_eq, eq-eqb, ne_eqb}
use Rattle.std.proofs.lemmas.List.Elements.{filter-append, recursion_from_All}
use Rattle.std.specs.List.{range_with_len}
use Rattle.std.specs.Prelude.{flat_map}
use Rattle.aut_base.proofs.lists.AllByRecursion.{AllByRecursion-weaker}
use Rattle.aut_base.proofs.order.Climbing.{AllFrom}
use Rattle.aut_base.proofs.order.Ordered.{all_kept, none_kept}
use Rattle.aut_base.specs.Automaton.{LabelledEdge}
use Rattle.aut_core.specs.Surveys.{edges_from}

pub own_row : (q : ℕ) (es : List LabelledEdge) → AllFrom q es → edges_from q es ≡ es
own_row q es own = all_kept (λ (e : LabelledEdge). e.from == q) es
    (AllByRecursion-weaker (λ (e : LabelledEdge). e.from ≡ q) (λ e. (e.from == q) ≡ true) es (λ e is. eq-eqb e.from q is) (recursion_from_All (λ (e : LabelledEdge). e.from ≡ q) es own))

pub other_row : (p q : ℕ) (es : List LabelledEdge) → p ≢ q → AllFrom p es → edges_from q es ≡ []
other_row p q es other own = none_kept (λ (e : LabelledEdge). e.from == q) es
    (AllByRecursion-weaker (λ (e : LabelledEdge). e.from ≡ p) (λ e. (e.from == q) ≡ false) es (λ e is. ne_eqb e.from q (λ same. other (sym is ∙ same)))
    (recursion_from_All (λ (e : LabelledEdge). e.from ≡ p) es own))

module _ (row : ℕ → List LabelledEdge) (own : (q : ℕ) → AllFrom q (row q)) where
  pub rows_past : (i n q : ℕ) → q < i → edges_from q (flat_map row (range_with_len i n)) ≡ []
  rows_past i zero q less = refl
  rows_past i (suc n) q less =
      filter-append (λ (e : LabelledEdge). e.from == q) (row i) (flat_map row (range_with_len (i + 1) n))
      ∙ (ap (λ es. es ++ edges_from q (flat_map row (range_with_len (i + 1) n))) (other_row i q (row i) (λ e. absurd (omega (arith, e, less))) (own i)) ∙ rows_past (i + 1) n q (omega (arith, less)))

  pub rows_before : (i n q : ℕ) → i + n ≤ q → edges_from q (flat_map row (range_with_len i n)) ≡ []
  rows_before i zero q past = refl
  rows_before i (suc n) q past =
      filter-append (λ (e : LabelledEdge). e.from == q) (row i) (flat_map row (range_with_len (i + 1) n))
      ∙ (ap (λ es. es ++ edges_from q (flat_map row (range_with_len (i + 1) n))) (other_row i q (row i) (λ e. absurd (omega (arith, e, past))) (own i)) ∙ rows_before (i + 1) n q (omega (arith, past)))

  pub row_of : (i n q : ℕ) → i ≤ q → q < i + n → edges_from q (flat_map row (range_with_len i n)) ≡ row q
  row_of i zero q low high = absurd (omega (arith, low, high))
  row_of i (suc n) q low high = elim (cases_eq i q) [
    | inl here ↦ filter-append (λ (e : LabelledEdge). e.from == q) (row i) (flat_map row (range_with_len (i + 1) n))
        ∙ (ap (λ es. edges_from q (row i) ++ es) (rows_past (i + 1) n q (omega (arith, here)))
        ∙ (append-nil (edges_from q (row i)) ∙ (own_row q (row i) (subst (λ p. AllFrom p (row i)) here (own i)) ∙ ap row here)))
    | inr later ↦ filter-append (λ (e : LabelledEdge). e.from == q) (row i) (flat_map row (range_with_len (i + 1) n))
        ∙ (ap (λ es. es ++ edges_from q (flat_map row (range_with_len (i + 1) n))) (other_row i q (row i) later (own i)) ∙ row_of (i + 1) n q (omega (arith, low, later)) (omega (arith, high)))
  ]
