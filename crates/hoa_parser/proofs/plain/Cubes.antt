-- Conjunctions of literals whose propositions rise, as two masks.
use Rattle.std.proofs.Common.{◌≡◌, inl, inr, ℕ, zero, suc, ◌+◌, ◌*◌, ◌/◌, ◌%◌, ◌^◌, ◌==◌, ◌<◌, ◌≤◌, ◌∙◌, Bool, true, false, [], ◌∷◌, ◌++◌, ap, arith, refl, sym}
use Rattle.std.proofs.Math.Nat.{div-div-eq-div-mul, pow-suc}
use Rattle.std.proofs.lemmas.Bool.{cases_lt}
use Rattle.std.proofs.lemmas.List.{append-nil}
use Rattle.hoa_parser.specs.Raw.{all_literals, cube_literals, has_bit, maybe_literal, raw_literal}

-- the next bit is that of the half
pub half_bit : (n k : ℕ) → has_bit n (suc k) ≡ has_bit (n / 2) k
half_bit n k =
    let a : 2 ^ suc k ≡ 2 * 2 ^ k = let b : 2 ^ suc k ≡ 2 ^ k * 2 = pow-suc 2 k in omega arith in
    ap (λ m. n / m % 2 == 1) a ∙ ap (λ m. m % 2 == 1) (sym (div-div-eq-div-mul n 2 (2 ^ k)))

first_bit : (n m : ℕ) → n % 2 ≡ m % 2 → has_bit n 0 ≡ has_bit m 0
first_bit n m e =
    let a : n / 2 ^ 0 ≡ n = omega arith in
    let b : m / 2 ^ 0 ≡ m = omega arith in
    ap (λ x. x % 2 == 1) a ∙ (ap (λ x. x == 1) e ∙ ap (λ x. x % 2 == 1) (sym b))

-- a number below a power has none of the bits from there on
pub no_bit : (n k j : ℕ) → n < 2 ^ k → k ≤ j → has_bit n j ≡ false
no_bit n zero zero below from = let none : n ≡ 0 = omega (arith, below) in ap (λ m. has_bit m 0) none
no_bit n zero (suc j) below from = half_bit n j ∙ no_bit (n / 2) zero j (omega (arith, below)) (omega arith)
no_bit n (suc k) zero below from = absurd (omega (arith, from))
no_bit n (suc k) (suc j) below from =
    let two : 2 ^ suc k ≡ 2 ^ k * 2 = pow-suc 2 k in
    half_bit n j ∙ no_bit (n / 2) k j (omega (arith, below, two)) (omega (arith, from))

-- a bit that is added leaves those before it as they were, and is one
pub bit_before : (n p j : ℕ) → j < p → has_bit (n + 2 ^ p) j ≡ has_bit n j
bit_before n zero j before = absurd (omega (arith, before))
bit_before n (suc p) zero before =
    let two : 2 ^ suc p ≡ 2 ^ p * 2 = pow-suc 2 p in
    first_bit (n + 2 ^ suc p) n (omega (arith, two))
bit_before n (suc p) (suc j) before =
    let two : 2 ^ suc p ≡ 2 ^ p * 2 = pow-suc 2 p in
    let halved : (n + 2 ^ suc p) / 2 ≡ n / 2 + 2 ^ p = omega (arith, two) in
    half_bit (n + 2 ^ suc p) j ∙ (ap (λ m. has_bit m j) halved ∙ (bit_before (n / 2) p j (omega (arith, before)) ∙ sym (half_bit n j)))

pub bit_added : (n p : ℕ) → n < 2 ^ p → has_bit (n + 2 ^ p) p ≡ true
bit_added n zero below = let one : n + 2 ^ 0 ≡ 1 = omega (arith, below) in ap (λ m. has_bit m 0) one
bit_added n (suc p) below =
    let two : 2 ^ suc p ≡ 2 ^ p * 2 = pow-suc 2 p in
    let halved : (n + 2 ^ suc p) / 2 ≡ n / 2 + 2 ^ p = omega (arith, two) in
    half_bit (n + 2 ^ suc p) p ∙ (ap (λ m. has_bit m p) halved ∙ bit_added (n / 2) p (omega (arith, below, two)))

-- no literals where there are no bits
pub literals_before : (n v m k : ℕ) → n < 2 ^ m → m ≤ k → cube_literals n v k ≡ cube_literals n v m
literals_before n v m zero below within = let none : 0 ≡ m = omega (arith, within) in ap (cube_literals n v) none
literals_before n v m (suc k) below within = elim (cases_lt m (suc k)) [
  | inl less ↦ ap (λ b. cube_literals n v k ++ maybe_literal b k (has_bit v k)) (no_bit n m k below (omega (arith, less)))
      ∙ (append-nil (cube_literals n v k) ∙ literals_before n v m k below (omega (arith, less)))
  | inr from ↦ let same : suc k ≡ m = omega (arith, from, within) in ap (cube_literals n v) same
]

-- the same literals where the bits are the same
literals_alike : (n v m w k : ℕ) → ((j : ℕ) → j < k → has_bit n j ≡ has_bit m j) → ((j : ℕ) → j < k → has_bit v j ≡ has_bit w j) → cube_literals n v k ≡ cube_literals m w k
literals_alike n v m w zero names values = refl
literals_alike n v m w (suc k) names values =
    λ i. literals_alike n v m w k (λ j before. names j (omega (arith, before))) (λ j before. values j (omega (arith, before))) i
    ++ maybe_literal (names k (omega arith) i) k (values k (omega arith) i)

-- A bit above all others adds its literal at the end.
literals_added : (n v w p most : ℕ) (holds : Bool) → n < 2 ^ p → p < most → ((j : ℕ) → j < p → has_bit w j ≡ has_bit v j) → has_bit w p ≡ holds
    → cube_literals (n + 2 ^ p) w most ≡ cube_literals n v most ++ raw_literal p holds ∷ []
literals_added n v w p most holds below within alike here =
    let two : 2 ^ suc p ≡ 2 ^ p * 2 = pow-suc 2 p in
    literals_before (n + 2 ^ p) w (suc p) most (omega (arith, below, two)) (omega (arith, within))
    ∙ ((λ i. literals_alike (n + 2 ^ p) w n v p (λ j before. bit_before n p j before) alike i ++ maybe_literal (bit_added n p below i) p (here i))
    ∙ ap (λ ts. ts ++ raw_literal p holds ∷ []) (sym (literals_before n v p most below (omega (arith, within)))))

pub added_holds : (n v p : ℕ) → n < 2 ^ p → v ≤ n → p < 32 → all_literals (n + 2 ^ p) (v + 2 ^ p) ≡ all_literals n v ++ raw_literal p true ∷ []
unfolding all_literals
added_holds n v p below within few = literals_added n v (v + 2 ^ p) p 32 true below few (λ j before. bit_before v p j before) (bit_added v p (omega (arith, below, within)))

pub added_fails : (n v p : ℕ) → n < 2 ^ p → v ≤ n → p < 32 → all_literals (n + 2 ^ p) v ≡ all_literals n v ++ raw_literal p false ∷ []
unfolding all_literals
added_fails n v p below within few = literals_added n v v p 32 false below few (λ j before. refl) (no_bit v p p (omega (arith, below, within)) (omega arith))

-- no bits, no literals
pub no_literals : all_literals 0 0 ≡ []
unfolding all_literals
no_literals = literals_before 0 0 0 32 (omega arith) (omega arith)
