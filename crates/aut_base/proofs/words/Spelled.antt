-- The n-th letter of a lasso word (or item of any such list): read off the stem followed by copies of the cycle.
use Rattle.std.proofs.Common.{◌≡◌, ◌∙◌, ℕ, ◌+◌, ◌-◌, ◌*◌, ◌/◌, ◌%◌, ◌<◌, ◌≤◌, List, ◌++◌, length, slice_get, if◌then◌else◌, ◌⊎◌, inl, inr, sym, ap, arith}
use Rattle.std.proofs.lemmas.Bool.{lt-ltb, le-ltb, cases_lt}
use Rattle.std.proofs.lemmas.Nat.{mod-mul-add, mod_below, div_below, div-add-mod'}
use Rattle.aut_base.specs.Word.{copies, nth}
use Rattle.aut_base.proofs.lists.Copies.{get-copies}
use Rattle.aut_base.proofs.lists.Lists.{slice_get-append_left, slice_get-append_right}

module _ {A : Type 0} where
  pub stem_letter : (u v : List A) (n : ℕ) → n < length u → nth u v n ≡ slice_get u n
  stem_letter u v n within = ap (λ b. if b then slice_get u n else slice_get v ((n - length u) % length v)) (lt-ltb n (length u) within)

  pub cycle_letter : (u v : List A) (s m n : ℕ) → m < length v → n ≡ length u + (s * length v + m) → nth u v n ≡ slice_get v m
  cycle_letter u v s m n within e =
      let past : n - length u ≡ s * length v + m = omega arith in
      ap (λ b. if b then slice_get u n else slice_get v ((n - length u) % length v)) (le-ltb n (length u) (omega arith))
      ∙ ap (slice_get v) (ap (λ k. k % length v) past ∙ mod-mul-add s (length v) m within)

  -- from the start of any copy of the cycle on
  pub round_letter : (u v : List A) (s j k n : ℕ) → 0 < length v → k < j * length v → n ≡ length u + (s * length v + k) → nth u v n ≡ slice_get (copies j v) k
  round_letter u v s j k n some within e =
      let l = length v in
      let parts : k / l * l + k % l ≡ k = div-add-mod' k l in
      let rest : k % l < l = mod_below k l some in
      cycle_letter u v (s + k / l) (k % l) n rest (omega arith)
      ∙ sym (get-copies j (k / l) (k % l) k v (div_below k l j some within) rest (sym parts))

  -- from the start of the word on
  pub word_letter : (u v : List A) (i n : ℕ) → 0 < length v → n < length u + i * length v → nth u v n ≡ slice_get (u ++ copies i v) n
  word_letter u v i n some within = go (cases_lt n (length u))
    where
      go : (n < length u) ⊎ (length u ≤ n) → nth u v n ≡ slice_get (u ++ copies i v) n
      go (inl inside) = stem_letter u v n inside ∙ sym (slice_get-append_left u (copies i v) n inside)
      go (inr past) =
          round_letter u v 0 i (n - length u) n some (omega arith) (omega arith) ∙ sym (slice_get-append_right u (copies i v) (n - length u) n (omega arith))
