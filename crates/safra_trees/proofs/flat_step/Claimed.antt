-- The claim on a state is its place in the grown forest.
use Rattle.std.proofs.Common.{◌≡◌, ◌∙◌, ◌⊎◌, ◌≤◌, ℕ, true, List, [], ◌∷◌, Contains, ap, arith, inl, inr, length, nat_lt, refl, subst, sym}
use Rattle.std.proofs.lemmas.Bool.{both_ways, cases_Bool, cond-false, cond-true, ltb-false, ltb-true}
use Rattle.aut_base.proofs.lists.Members.{first_there, later_there, none_there, there_cases}
use Rattle.safra_trees.specs.inner.Claims.{claim, claimant, first_of, key, leads}
use Rattle.safra_trees.specs.declared.moves.Move.{Move}

-- a move that claims the state for this name
pub record Lets (m : ℕ) (place : ℕ → ℕ) (s : ℕ) (moves : List Move) (c : ℕ) : Type 0 where
  pub move : Move
  pub there : Contains moves move
  pub leads_on : leads m place s move ≡ true
  pub is : c ≡ claimant m (place move.from) move

-- the claim after these moves, where it was `before` before them
pub record IsClaim (order : List ℕ) (place : ℕ → ℕ) (s : ℕ) (moves : List Move) (before c : ℕ) : Type 0 where
  pub from : (c ≡ before) ⊎ Lets (length order) place s moves c
  pub low : key order c ≤ key order before
  pub first : (e : Move) → Contains moves e → leads (length order) place s e ≡ true → key order c ≤ key order (claimant (length order) (place e.from) e)

pub record IsFirstOf (order : List ℕ) (c d r : ℕ) : Type 0 where
  pub is : (r ≡ c) ⊎ (r ≡ d)
  pub one : key order r ≤ key order c
  pub other : key order r ≤ key order d

first_one : (order : List ℕ) (c d : ℕ) → IsFirstOf order c d (first_of order c d)
first_one order c d = elim (cases_Bool (nat_lt (key order d) (key order c))) [
  | inl less ↦ (
      let is : first_of order c d ≡ d = cond-true (nat_lt (key order d) (key order c)) d c less in
      let e : key order (first_of order c d) ≡ key order d = ap (key order) is in
      record { is = inr is; one = omega (arith, e, ltb-true (key order d) (key order c) less); other = omega (arith, e) })
  | inr more ↦ (
      let is : first_of order c d ≡ c = cond-false (nat_lt (key order d) (key order c)) d c more in
      let e : key order (first_of order c d) ≡ key order c = ap (key order) is in
      record { is = inl is; one = omega (arith, e); other = omega (arith, e, ltb-false (key order d) (key order c) more) })
]

more_lets : (m : ℕ) (place : ℕ → ℕ) (s : ℕ) (e : Move) (moves : List Move) (c : ℕ) → Lets m place s moves c → Lets m place s (e ∷ moves) c
more_lets m place s e moves c lets = record { move = lets.move; there = later_there e moves lets.move lets.there; leads_on = lets.leads_on; is = lets.is }

pub claim_is : (order : List ℕ) (place : ℕ → ℕ) (s : ℕ) (moves : List Move) (before : ℕ) → IsClaim order place s moves before (claim order place s moves before)
claim_is order place s [] before = record { from = inl refl; low = omega arith; first = λ e there. absurd (none_there e there) }
claim_is order place s (move ∷ moves) before = elim (cases_Bool (leads (length order) place s move)) [
  | inl leading ↦ (
      let d = claimant (length order) (place move.from) move in
      let now : claim order place s (move ∷ moves) before ≡ claim order place s moves (first_of order before d) =
      ap (claim order place s moves) (cond-true (leads (length order) place s move) (first_of order before d) before leading) in
      let rest = claim_is order place s moves (first_of order before d) in
      let one = first_one order before d in
      subst (IsClaim order place s (move ∷ moves) before) (sym now) (record {
        from = elim rest.from [
          | inl kept ↦ (elim one.is [
            | inl old ↦ inl (kept ∙ old)
            | inr new ↦ inr (record { move = move; there = first_there move moves; leads_on = leading; is = kept ∙ new })
          ])
          | inr lets ↦ inr (more_lets (length order) place s move moves _ lets)
        ];
        low = omega (arith, rest.low, one.one);
        first = λ e there led. elim (there_cases move moves e there) [
          | inl here ↦ (
              let same : key order d ≡ key order (claimant (length order) (place e.from) e) = ap (λ (v : Move). key order (claimant (length order) (place v.from) v)) here in
              omega (arith, rest.low, one.other, same))
          | inr later ↦ rest.first e later led
        ];
      }))
  | inr idle ↦ (
      let now : claim order place s (move ∷ moves) before ≡ claim order place s moves before =
      ap (claim order place s moves) (cond-false (leads (length order) place s move) (first_of order before (claimant (length order) (place move.from) move)) before idle) in
      let rest = claim_is order place s moves before in
      subst (IsClaim order place s (move ∷ moves) before) (sym now) (record {
        from = elim rest.from [
          | inl kept ↦ inl kept
          | inr lets ↦ inr (more_lets (length order) place s move moves _ lets)
        ];
        low = rest.low;
        first = λ e there led. elim (there_cases move moves e there) [
          | inl here ↦ absurd (both_ways (leads (length order) place s move) idle (ap (leads (length order) place s) here ∙ led))
          | inr later ↦ rest.first e later led
        ];
      }))
]
