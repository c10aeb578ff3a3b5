-- The examples of canonical labels, and the order of valuations.
use Rattle.std.proofs.Common.{◌≡◌, ◌∙◌, ◌*◌, ◌+◌, ◌^◌, ℕ, zero, suc, Bool, lit<, List, [], ◌∷◌, map, refl, ap, arith}
use Rattle.std.proofs.Math.Nat.{pow-suc}
use Rattle.std.proofs.lemmas.Fmt.{decimal_digit}
use Rattle.std.specs.Fmt.{decimal}
use Rattle.std.specs.List.{range_with_len}
use Rattle.std.specs.Prelude.{codes}
use Rattle.aut_base.specs.LabelExamples.{CanonicalExamples}
use Rattle.aut_base.specs.Valuation.{number_of, valuations}
use Rattle.aut_base.proofs.canonical.ValuationLists.{both_ways}

-- where valuations have the numbers from k on, those with a proposition put before them have the numbers from 2k on, twice as many
numbers : (vs : List (List Bool)) (k m : ℕ) → map number_of vs ≡ range_with_len k m → map number_of (both_ways vs) ≡ range_with_len (2 * k) (2 * m)
numbers [] k zero e = refl
numbers [] k (suc m) e = absurd cc
numbers (v ∷ vs) k zero e = absurd cc
numbers (v ∷ vs) k (suc m) e =
    let here : number_of v ≡ k = cc in
    let rest : map number_of vs ≡ range_with_len (k + 1) m = cc in
    let more = numbers vs (k + 1) m rest in
    let first : 0 + 2 * number_of v ≡ 2 * k = omega arith in
    let second : 1 + 2 * number_of v ≡ 2 * k + 1 = omega arith in
    let next : 2 * (k + 1) ≡ 2 * k + 1 + 1 = omega arith in
    let twice : 2 * suc m ≡ suc (suc (2 * m)) = omega arith in
    rw (twice, first, second, more, next) refl

pub in_order : (n : ℕ) → map number_of (valuations n) ≡ range_with_len 0 (2 ^ n)
in_order zero = refl
in_order (suc n) =
    let none : 2 * 0 ≡ 0 = omega arith in
    let twice : 2 * 2 ^ n ≡ 2 ^ suc n = omega (arith, pow-suc 2 n) in
    numbers (valuations n) 0 (2 ^ n) (in_order n) ∙ (ap (λ k. range_with_len k (2 * 2 ^ n)) none ∙ ap (range_with_len 0) twice)

zero_text : decimal 0 ≡ codes "0"
zero_text = decimal_digit 0 (lit< tt)

one_text : decimal 1 ≡ codes "1"
one_text = decimal_digit 1 (lit< tt)

two_text : decimal 2 ≡ codes "2"
two_text = decimal_digit 2 (lit< tt)

pub canonical_examples : CanonicalExamples
canonical_examples = record {
  exclusive = rw (zero_text, one_text) refl;
  inclusive = rw (zero_text, one_text) refl;
  never = refl;
  always = refl;
  second_of_two = one_text;
  shared = rw (zero_text, one_text, two_text) refl;
  of_two = refl;
  in_order = in_order;
}
