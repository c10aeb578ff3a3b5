-- Each letter has one number, and no other.
use Rattle.std.proofs.Common.{◌≡◌, ◌∙◌, ◌*◌, ◌/◌, ◌%◌, ◌^◌, ◌==◌, ◌<◌, ◌≤◌, ⊎_elim, ◌&&◌, ℕ, zero, suc, Bool, true, false, ap, arith, refl, subst, sym}
use Rattle.std.proofs.Math.Nat.{div-div-eq-div-mul, pow-suc}
use Rattle.std.proofs.lemmas.Bool.{and_from, and_parts, cases_lt, false≢true}
use Rattle.std.specs.Bool.{beq}
use Rattle.aut_base.proofs.canonical.CanonicalTruth.{truth-label_of}
use Rattle.aut_base.proofs.canonical.ValuationLists.{holds_in-valuation_of, length-valuation_of}
use Rattle.aut_base.specs.CanonicalLabel.{canonical_label}
use Rattle.aut_base.specs.Label.{truth}
use Rattle.aut_base.specs.Valuation.{holds_in, number_of, truth_on, valuation_of}
use Rattle.hoa_reader.proofs.labels.LetterTruth.{letter_truth}
use Rattle.hoa_reader.specs.Described.{letter_label}
use Rattle.label_guards.proofs.valuations.Valuations.{bits_of-at, bits_of-number, number_bound}
use Rattle.label_guards.specs.Numbers.{is_at, is_set}

bit_same : (p q : ℕ) → p < 2 → q < 2 → (p == 1) ≡ (q == 1) → p ≡ q
bit_same zero zero a b e = refl
bit_same zero (suc zero) a b e = absurd (false≢true e)
bit_same (suc zero) zero a b e = absurd (false≢true (sym e))
bit_same (suc zero) (suc zero) a b e = refl
bit_same (suc (suc p)) q a b e = absurd (omega (arith, a))
bit_same p (suc (suc q)) a b e = absurd (omega (arith, b))

half_bit : (a k : ℕ) → is_set a (suc k) ≡ is_set (a / 2) k
half_bit a k =
    let double : 2 ^ suc k ≡ 2 * 2 ^ k = let b : 2 ^ suc k ≡ 2 ^ k * 2 = pow-suc 2 k in omega arith in
    ap (λ m. a / m % 2 == 1) double ∙ ap (λ m. m % 2 == 1) (sym (div-div-eq-div-mul a 2 (2 ^ k)))

same_number : (n a b : ℕ) → a < 2 ^ n → b < 2 ^ n → ((k : ℕ) → k < n → is_set a k ≡ is_set b k) → a ≡ b
same_number zero a b less fewer same = omega (arith, less, fewer)
same_number (suc n) a b less fewer same =
    let double : 2 ^ suc n ≡ 2 ^ n * 2 = pow-suc 2 n in
    let halves : a / 2 ≡ b / 2 = same_number n (a / 2) (b / 2) (omega (arith, less, double)) (omega (arith, fewer, double))
    (λ k l. sym (half_bit a k) ∙ (same (suc k) (omega (arith, l)) ∙ half_bit b k)) in
    let whole : (m : ℕ) → m / 2 ^ 0 ≡ m = λ m. omega arith in
    let first : (a % 2 == 1) ≡ (b % 2 == 1) = ap (λ m. m % 2 == 1) (sym (whole a)) ∙ (same 0 (omega arith) ∙ ap (λ m. m % 2 == 1) (whole b)) in
    let rests : a % 2 ≡ b % 2 = bit_same (a % 2) (b % 2) (omega arith) (omega arith) first in
    omega (arith, halves, rests)

beq_same : (a b : Bool) → beq a b ≡ true → a ≡ b
beq_same true true e = refl
beq_same true false e = absurd (false≢true e)
beq_same false true e = absurd (false≢true e)
beq_same false false e = refl

beq_itself : (a : Bool) → beq a a ≡ true
beq_itself true = refl
beq_itself false = refl

bits_at : (n a : ℕ) (on : ℕ → Bool) → is_at a n on ≡ true → (k : ℕ) → k < n → on k ≡ is_set a k
bits_at zero a on e k l = absurd (omega (arith, l))
bits_at (suc n) a on e k l =
    let parts = and_parts (is_at a n on) (beq (on n) (is_set a n)) e in
    ⊎_elim (λ (less : k < n). bits_at n a on parts.0 k less)
    (λ (from : n ≤ k). let same : n ≡ k = omega (arith, from, l) in subst (λ i. on i ≡ is_set a i) same (beq_same (on n) (is_set a n) parts.1)) (cases_lt k n)

at_bits : (n a : ℕ) (on : ℕ → Bool) → ((k : ℕ) → k < n → is_set a k ≡ on k) → is_at a n on ≡ true
at_bits zero a on same = refl
at_bits (suc n) a on same =
    and_from (is_at a n on) (beq (on n) (is_set a n)) (at_bits n a on (λ k l. same k (omega (arith, l))))
    (subst (λ b. beq (on n) b ≡ true) (sym (same n (omega arith))) (beq_itself (on n)))

-- of two numbers at most one is a letter's
pub one_number : (n a b : ℕ) (on : ℕ → Bool) → a < 2 ^ n → b < 2 ^ n → is_at a n on ≡ true → is_at b n on ≡ true → a ≡ b
one_number n a b on less fewer first second = same_number n a b less fewer (λ k l. sym (bits_at n a on first k l) ∙ bits_at n b on second k l)

-- the number of a letter
abbrev pub letter_of_all : ℕ → (ℕ → Bool) → ℕ
letter_of_all n on = number_of (valuation_of n on)

pub number_small : (n : ℕ) (on : ℕ → Bool) → letter_of_all n on < 2 ^ n
number_small n on = subst (λ m. letter_of_all n on < 2 ^ m) (length-valuation_of n on) (number_bound (valuation_of n on))

pub number_there : (n : ℕ) (on : ℕ → Bool) → is_at (letter_of_all n on) n on ≡ true
number_there n on =
    at_bits n (letter_of_all n on) on (λ k l. bits_of-at n (letter_of_all n on) k l
    ∙ (ap (λ v. holds_in v k) (bits_of-number (valuation_of n on) n (length-valuation_of n on)) ∙ holds_in-valuation_of n on k l))

at_agrees : (number n : ℕ) (on also : ℕ → Bool) → ((k : ℕ) → k < n → on k ≡ also k) → is_at number n on ≡ is_at number n also
at_agrees number zero on also same = refl
at_agrees number (suc n) on also same = λ i. at_agrees number n on also (λ k l. same k (omega (arith, l))) i && beq (same n (omega arith) i) (is_set number n)

-- the label of a letter, in its canonical form
pub settled_letter : (n number : ℕ) (on : ℕ → Bool) → truth on (canonical_label n (letter_label n number)) ≡ is_at number n on
settled_letter n number on =
    truth-label_of on n (truth_on (letter_label n number))
    ∙ (letter_truth number n (holds_in (valuation_of n on)) ∙ at_agrees number n (holds_in (valuation_of n on)) on (λ k l. holds_in-valuation_of n on k l))
