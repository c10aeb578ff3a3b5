-- The number of flagged states before a state, as its new number.
use Rattle.std.proofs.Common.{◌≡◌, ◌∙◌, ◌+◌, ◌<◌, ◌≤◌, ℕ, zero, suc, Bool, true, false, cond, List, [], ◌∷◌, ap, arith, inl, inr, length, map, sym}
use Rattle.std.proofs.lemmas.Bool.{cases_lt, false≢true}
use Rattle.std.proofs.lemmas.List.{length-map}
use Rattle.std.proofs.lemmas.List.Filters.{length-filter_more}
use Rattle.std.proofs.lemmas.List.FromFn.{length-range_with_len}
use Rattle.std.specs.List.{range_with_len}
use Rattle.aut_ops.specs.Satisfiable.{is_flagged}
use Rattle.aut_ops.specs.Trimming.{flagged_before}

pub rank_rises : (flags : List Bool) (p q : ℕ) → p ≤ q → flagged_before flags p ≤ flagged_before flags q
rank_rises flags zero q le = omega arith
rank_rises flags (suc p) zero le = absurd (omega (arith, le))
rank_rises [] (suc p) (suc q) le = omega arith
rank_rises (true ∷ flags) (suc p) (suc q) le = let rest = rank_rises flags p q (omega (arith, le)) in omega (arith, rest)
rank_rises (false ∷ flags) (suc p) (suc q) le = rank_rises flags p q (omega (arith, le))

-- after a flagged state it is greater
pub rank_less : (flags : List Bool) (p q : ℕ) → is_flagged flags p ≡ true → p < q → flagged_before flags p < flagged_before flags q
rank_less flags p zero flagged less = absurd (omega (arith, less))
rank_less [] zero (suc q) flagged less = absurd (false≢true flagged)
rank_less [] (suc p) (suc q) flagged less = absurd (false≢true flagged)
rank_less (true ∷ flags) zero (suc q) flagged less = omega arith
rank_less (false ∷ flags) zero (suc q) flagged less = absurd (false≢true flagged)
rank_less (true ∷ flags) (suc p) (suc q) flagged less = let rest = rank_less flags p q flagged (omega (arith, less)) in omega (arith, rest)
rank_less (false ∷ flags) (suc p) (suc q) flagged less = rank_less flags p q flagged (omega (arith, less))

-- flagged states have different ones
pub rank_one : (flags : List Bool) (p q : ℕ) → is_flagged flags p ≡ true → is_flagged flags q ≡ true → flagged_before flags p ≡ flagged_before flags q → p ≡ q
rank_one flags p q first second same = elim (cases_lt p q) [
  | inl before ↦ absurd (let less = rank_less flags p q first before in omega (arith, less, same))
  | inr later ↦ elim (cases_lt q p) [
    | inl behind ↦ absurd (let less = rank_less flags q p second behind in omega (arith, less, same))
    | inr not_behind ↦ omega (arith, later, not_behind)
  ]
]

pub rank_within : (flags : List Bool) (q : ℕ) → flagged_before flags q ≤ q
rank_within flags zero = omega arith
rank_within [] (suc q) = omega arith
rank_within (true ∷ flags) (suc q) = let rest = rank_within flags q in omega (arith, rest)
rank_within (false ∷ flags) (suc q) = let rest = rank_within flags q in omega (arith, rest)

-- the number after another flag

rank_push : (flags : List Bool) (i : ℕ) → i < length flags → flagged_before flags (i + 1) ≡ flagged_before flags i + cond (is_flagged flags i) 1 0
rank_push flags i within = length-filter_more (λ flag. flag) flags i false within

pub rank_set : (flags : List Bool) (i count : ℕ) → i < length flags → count ≡ flagged_before flags i → is_flagged flags i ≡ true → count + 1 ≡ flagged_before flags (i + 1)
rank_set flags i count within so_far set = ap (λ n. n + 1) so_far ∙ sym (rank_push flags i within ∙ ap (λ f. flagged_before flags i + cond f 1 0) set)

pub rank_unset : (flags : List Bool) (i count : ℕ) → i < length flags → count ≡ flagged_before flags i → is_flagged flags i ≡ false → count ≡ flagged_before flags (i + 1)
rank_unset flags i count within so_far unset =
    let pushed : flagged_before flags (i + 1) ≡ flagged_before flags i + 0 = rank_push flags i within ∙ ap (λ f. flagged_before flags i + cond f 1 0) unset in
    omega (arith, so_far, pushed)

pub ranks_count : (flags : List Bool) (ranks : List ℕ) → ranks ≡ map (flagged_before flags) (range_with_len 0 (length flags)) → length ranks ≡ length flags
ranks_count flags ranks is = ap (λ (ns : List ℕ). length ns) is ∙ (length-map (range_with_len 0 (length flags)) (flagged_before flags) ∙ length-range_with_len 0 (length flags))
