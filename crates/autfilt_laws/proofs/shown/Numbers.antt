-- Digits are refused at the first that makes the integer too great.
use Rattle.std.proofs.Common.{◌≡◌, ℕ, ◌+◌, ◌-◌, ◌*◌, ◌^◌, ◌<◌, ◌≤◌, true, List, [], ◌∷◌, None, inl, inr, refl, arith}
use Rattle.std.proofs.lemmas.Bool.{cases_Bool, cases_lt}
use Rattle.std.proofs.lemmas.Bool.Decides.{nat_tests}
use Rattle.hoa_lexer.specs.Bytes.{is_digit}
use Rattle.hoa_lexer.specs.Text.{IsNoToken}
use Rattle.hoa_lexer.specs.declared.token.Token.TheVariants.{Int}
use Rattle.hoa_lexer.proofs.spelling.Numbers.{IsDigits, digits_push, number_bad, number_end, number_token, number_zero}
use Rattle.hoa_lexer.proofs.next_token.StuckPlaces.{no_open_token}
use Rattle.autfilt_laws.proofs.shown.Fronts.{IsRefused, not_token, refused_here}

-- the value with another digit
abbrev more : ℕ → ℕ → ℕ
more value digit = 10 * value + (digit - 48)

digits_refused : (k first value : ℕ) (x y : List ℕ) → is_digit first ≡ true → 0 < first - 48 → value < 2 ^ 32 → IsDigits first value x y → IsNoToken (first ∷ x) → IsRefused k (first ∷ x)
digits_refused k first value x [] d v l w n = absurd (no_open_token (first ∷ x) n (number_end first value x [] d v l w refl))
digits_refused k first value x (b ∷ z) d v l w n = elim (cases_Bool (is_digit b)) [
  | inl g ↦ elim (cases_lt (more value b) (2 ^ 32)) [
    | inl less ↦ digits_refused k first (more value b) x z d v less (digits_push first value (more value b) b x (b ∷ z) z w refl g refl) n
    | inr great ↦ refused_here k (first ∷ x) z (number_bad k k first value (more value b) b None x (b ∷ z) z refl refl d v l w refl g refl great)
  ]
  | inr s ↦ absurd (not_token (first ∷ x) (Int value) (b ∷ z) n (number_token first value b x (b ∷ z) z d v l w refl s))
]

-- a digit is no more than 9
small : (b : ℕ) → is_digit b ≡ true → b ≤ 57
small b d = grind (arith, nat_tests)

small_value : (b : ℕ) → b ≤ 57 → b - 48 < 2 ^ 32
small_value b l = omega arith

one_digit : (first : ℕ) (x : List ℕ) → IsDigits first (first - 48) x x
one_digit first x = record { seen = []; digits = refl; value_is = omega arith; split = refl }

pub number_refused : (k first : ℕ) (x : List ℕ) → is_digit first ≡ true → IsNoToken (first ∷ x) → IsRefused k (first ∷ x)
number_refused k first x d n = elim (cases_lt 0 (first - 48)) [
  | inl v ↦ digits_refused k first (first - 48) x x d v (small_value first (small first d)) (one_digit first x) n
  | inr none ↦ absurd (not_token (first ∷ x) (Int 0) x n (number_zero first (first - 48) x d refl (omega arith)))
]
