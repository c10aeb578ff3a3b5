-- The loop over moves that computes claims, one move at a time.
use Rattle.std.proofs.Common.{◌≡◌, ◌∙◌, ◌+◌, ◌<◌, ◌≤◌, ◌==◌, ◌&&◌, ℕ, zero, suc, Bool, true, false, cond, List, [], ◌∷◌, All, ap, arith, drop, get_or, inl, inr, length, nat_lt, refl, slice_set, sym}
use Rattle.std.proofs.lemmas.Bool.{and_from, cases_eq, cond-false, cond-true, eq-eqb, lt-ltb, ne_eqb}
use Rattle.std.proofs.lemmas.List.{drop_more, get_or-set_other, get_or-set_same, length-set}
use Rattle.safra_trees.specs.Flat.{at}
use Rattle.safra_trees.specs.inner.Claims.{claim, claimant, first_of, key, leads}
use Rattle.safra_trees.specs.declared.moves.Move.{Move}

pub at_read : (xs : List ℕ) (i x : ℕ) → i < length xs → x ≡ get_or xs i x → at xs i ≡ x
at_read [] i x less is = absurd (omega (arith, less))
at_read (y ∷ xs) zero x less is = sym is
at_read (y ∷ xs) (suc i) x less is = at_read xs i x (omega (arith, less)) is

pub first_of_low : (order : List ℕ) (c d most : ℕ) → c ≤ most → d ≤ most → first_of order c d ≤ most
first_of_low order c d most one other = by_cases (nat_lt (key order d) (key order c))
  where
    by_cases : (b : Bool) → cond b d c ≤ most
    by_cases true = other
    by_cases false = one

pub claimant_low : (m x : ℕ) (e : Move) → x < m → claimant m x e ≤ m + m
claimant_low m x e less = by_cases e.accepting
  where
    by_cases : (b : Bool) → cond b (m + x) x ≤ m + m
    by_cases true = omega (arith, less)
    by_cases false = omega (arith, less)

pub set_low : (xs : List ℕ) (i v most : ℕ) → All (λ c. c ≤ most) xs → v ≤ most → All (λ c. c ≤ most) (slice_set xs i v)
set_low xs i v most all low k d within = elim (cases_eq k i) [
  | inl here ↦ (
      let less : i < length xs = omega (arith, here, within, length-set xs i v) in
      let new : get_or (slice_set xs i v) k d ≡ v = ap (λ j. get_or (slice_set xs i v) j d) here ∙ get_or-set_same xs i v d less in
      omega (arith, new, low))
  | inr other ↦ (
      let new : get_or (slice_set xs i v) k d ≡ get_or xs k d = get_or-set_other xs i k v d other in
      omega (arith, new, all k d (omega (arith, within, length-set xs i v))))
]

stops : (a b : Bool) → b ≡ false → (a && b) ≡ false
stops true b h = h
stops false b h = refl

pub claims_more : (order claims : List ℕ) (place : ℕ → ℕ) (moves : List Move) (i s v : ℕ) (e d : Move) → i < length moves → e ≡ get_or moves i d → e.to < length claims → place e.from < length order
    → v ≡ first_of order (at claims e.to) (claimant (length order) (place e.from) e) → claim order place s (drop (i + 1) moves) (at (slice_set claims e.to v) s) ≡ claim order place s
    (drop i moves) (at claims s)
claims_more order claims place moves i s v e d within is goal less new =
    ap (claim order place s (drop (i + 1) moves)) here ∙ sym (ap (λ rest. claim order place s rest (at claims s)) (drop_more moves i d within ∙ ap (λ y. y ∷ drop (i + 1) moves) (sym is)))
  where
    here : at (slice_set claims e.to v) s ≡ cond (leads (length order) place s e) (first_of order (at claims s) (claimant (length order) (place e.from) e)) (at claims s)
    here = elim (cases_eq s e.to) [
      | inl same ↦ (
          let led : leads (length order) place s e ≡ true = and_from (nat_lt (place e.from) (length order)) (e.to == s) (lt-ltb (place e.from) (length order) less) (eq-eqb e.to s (sym same)) in
          ap (at (slice_set claims e.to v)) same ∙ (get_or-set_same claims e.to v 0 goal
          ∙ (new ∙ (ap (λ t. first_of order (at claims t) (claimant (length order) (place e.from) e)) (sym same)
          ∙ sym (cond-true (leads (length order) place s e) _ _ led)))))
      | inr other ↦ (
          let idle : leads (length order) place s e ≡ false = stops (nat_lt (place e.from) (length order)) (e.to == s) (ne_eqb e.to s (λ h. other (sym h))) in
          get_or-set_other claims e.to s v 0 other ∙ sym (cond-false (leads (length order) place s e) _ _ idle))
    ]
