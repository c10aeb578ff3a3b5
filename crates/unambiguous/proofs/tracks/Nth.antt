-- The infinite sequence of a stem and then a cycle again and again is the same where the stem takes in some rounds, or the
-- cycle is several rounds.
use Rattle.std.proofs.Common.{◌≡◌, ◌∙◌, ℕ, zero, suc, ◌*◌, ◌<◌, ◌≤◌, List, ◌++◌, append_assoc, length, slice_get, sym, ap, arith}
use Rattle.std.proofs.Math.Nat.{le-mul_of_pos_right}
use Rattle.std.proofs.lemmas.List.{append-nil, length-append}
use Rattle.std.proofs.lemmas.Nat.{mul-lt}
use Rattle.aut_base.specs.Word.{copies, nth}
use Rattle.aut_base.proofs.lists.Copies.{copies-copies, length-copies}
use Rattle.aut_base.proofs.lists.Lists.{slice_get-append_left}
use Rattle.aut_base.proofs.words.Spelled.{word_letter}

module _ {A : Type 0} where
  turned : (xs ys : List A) (i : ℕ) → xs ++ copies i (ys ++ xs) ≡ copies i (xs ++ ys) ++ xs
  turned xs ys zero = append-nil xs
  turned xs ys (suc i) =
      ap (λ zs. xs ++ zs) (append_assoc ys xs (copies i (ys ++ xs)) ∙ ap (λ zs. ys ++ zs) (turned xs ys i))
      ∙ (sym (append_assoc xs ys (copies i (xs ++ ys) ++ xs)) ∙ sym (append_assoc (xs ++ ys) (copies i (xs ++ ys)) xs))

  -- some rounds moved into the stem
  pub nth_turned : (u xs ys : List A) (n : ℕ) → 0 < length (xs ++ ys) → nth (u ++ xs) (ys ++ xs) n ≡ nth u (xs ++ ys) n
  nth_turned u xs ys n some =
      let i = suc n in
      let c = xs ++ ys in
      let long = length-append xs ys in
      let long' = length-append ys xs in
      let some' : 0 < length (ys ++ xs) = omega arith in
      let wide : suc n ≤ suc n * length (xs ++ ys) = le-mul_of_pos_right (suc n) some in
      let wide' : suc n ≤ suc n * length (ys ++ xs) = le-mul_of_pos_right (suc n) some' in
      let whole : (u ++ xs) ++ copies i (ys ++ xs) ≡ (u ++ copies i c) ++ xs =
      append_assoc u xs (copies i (ys ++ xs)) ∙ (ap (λ zs. u ++ zs) (turned xs ys i) ∙ sym (append_assoc u (copies i c) xs)) in
      let size = length-append u (copies i c) in
      let times = length-copies i c in
      word_letter (u ++ xs) (ys ++ xs) i n some' (omega arith)
      ∙ (ap (λ zs. slice_get zs n) whole ∙ (slice_get-append_left (u ++ copies i c) xs n (omega arith) ∙ sym (word_letter u c i n some (omega arith))))

  -- a cycle of some rounds
  pub nth_copies : (u c : List A) (k n : ℕ) → 0 < k → 0 < length c → nth u (copies k c) n ≡ nth u c n
  nth_copies u c k n times some =
      let i = suc n in
      let long : length (copies k c) ≡ k * length c = length-copies k c in
      let more : 0 < k * length c = mul-lt 0 0 k (length c) times some in
      let some' : 0 < length (copies k c) = omega arith in
      let wide : suc n ≤ suc n * length (copies k c) = le-mul_of_pos_right (suc n) some' in
      let cycle_rounds : suc n ≤ suc n * k = le-mul_of_pos_right (suc n) times in
      let wider : suc n * k ≤ suc n * k * length c = le-mul_of_pos_right (suc n * k) some in
      word_letter u (copies k c) i n some' (omega arith)
      ∙ (ap (λ zs. slice_get (u ++ zs) n) (copies-copies i k c) ∙ sym (word_letter u c (i * k) n some (omega arith)))
