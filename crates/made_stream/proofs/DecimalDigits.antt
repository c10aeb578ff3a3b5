-- The decimal digits of a number, from the last one to the first.
use Rattle.std.proofs.Common.{◌≡◌, ℕ, ◌+◌, ◌-◌, ◌/◌, ◌%◌, ◌^◌, ◌<◌, ◌≤◌, [], ◌∷◌, Some, length, slice_get, arith, ap, ◌∙◌, refl, inl, inr, length-append}
use Rattle.std.proofs.lemmas.Bool.{cases_lt}
use Rattle.std.specs.Fmt.{decimal}
use Rattle.std.proofs.lemmas.Fmt.{decimal_digit, decimal_step}
use Rattle.aut_base.proofs.lists.Lists.{slice_get-append_left, slice_get-push_last}

pub length-decimal_digit : (n : ℕ) → n < 10 → length (decimal n) ≡ 1
length-decimal_digit n small = ap length (decimal_digit n small)

-- a number from 10 on has one digit more than the number without its last digit
pub length-decimal_more : (n : ℕ) → 10 ≤ n → n < 2 ^ 64 → length (decimal n) ≡ length (decimal (n / 10)) + 1
length-decimal_more n large fits =
    ap length (decimal_step n large fits) ∙ length-append (decimal (n / 10)) ((48 + n % 10) ∷ [])

pub length-decimal_two : (n : ℕ) → 10 ≤ n → n < 100 → length (decimal n) ≡ 2
length-decimal_two n large small =
    length-decimal_more n large (omega arith)
    ∙ ap (λ k. k + 1) (length-decimal_digit (n / 10) (omega arith))

pub length-decimal_three : (n : ℕ) → 100 ≤ n → n < 1000 → length (decimal n) ≡ 3
length-decimal_three n large small =
    length-decimal_more n (omega arith) (omega arith)
    ∙ ap (λ k. k + 1) (length-decimal_two (n / 10) (omega arith) (omega arith))

pub length-decimal_four : (n : ℕ) → 1000 ≤ n → n < 10000 → length (decimal n) ≡ 4
length-decimal_four n large small =
    length-decimal_more n (omega arith) (omega arith)
    ∙ ap (λ k. k + 1) (length-decimal_three (n / 10) (omega arith) (omega arith))

pub length-decimal_five : (n : ℕ) → 10000 ≤ n → n < 100000 → length (decimal n) ≡ 5
length-decimal_five n large small =
    length-decimal_more n (omega arith) (omega arith)
    ∙ ap (λ k. k + 1) (length-decimal_four (n / 10) (omega arith) (omega arith))

-- the last digit
pub decimal-last : (n : ℕ) → n < 2 ^ 64 → slice_get (decimal n) (length (decimal n) - 1) ≡ Some (48 + n % 10)
decimal-last n fits =
    elim (cases_lt n 10) [
      | inl small ↦ let e : n % 10 ≡ n = omega arith in rw (decimal_digit n small, e) refl
      | inr large ↦
          let front = length-append (decimal (n / 10)) ((48 + n % 10) ∷ []) in
          rw (decimal_step n large fits) (slice_get-push_last (decimal (n / 10)) (48 + n % 10) _ (omega arith))
    ]

-- a number of several digits is 10 or more
several_digits : (n behind : ℕ) → 0 < behind → behind < length (decimal n) → 10 ≤ n
several_digits n behind other within =
    elim (cases_lt n 10) [
      | inl small ↦ let one = length-decimal_digit n small in omega arith
      | inr large ↦ large
    ]

-- any other digit is one of the number without its last digit
pub decimal-other :
    (n behind : ℕ) → n < 2 ^ 64 → 0 < behind → behind < length (decimal n) →
    (behind - 1 < length (decimal (n / 10)))
    × (slice_get (decimal n) (length (decimal n) - 1 - behind)
    ≡ slice_get (decimal (n / 10)) (length (decimal (n / 10)) - 1 - (behind - 1)))
decimal-other n behind fits other within =
    let large = several_digits n behind other within in
    let more = length-decimal_more n large fits in
    let place : length (decimal n) - 1 - behind ≡ length (decimal (n / 10)) - 1 - (behind - 1) = omega arith in
    let there : length (decimal (n / 10)) - 1 - (behind - 1) < length (decimal (n / 10)) = omega arith in (
      omega arith,
      rw (place, decimal_step n large fits) (slice_get-append_left (decimal (n / 10)) ((48 + n % 10) ∷ []) _ there),
    )
