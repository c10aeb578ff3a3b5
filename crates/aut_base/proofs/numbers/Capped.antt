-- Saturating sums and products.
use Rattle.std.proofs.Common.{◌≡◌, ◌∙◌, ℕ, zero, suc, ◌+◌, ◌*◌, ◌≤◌, ◌<◌, min, sym, ap, subst, arith, ⊎_elim}
use Rattle.std.proofs.Math.Nat.{min-eq_left, min-eq_right, zero-min, suc-min-suc}
use Rattle.std.proofs.lemmas.Bool.{cases_lt}

pub capped_add : (s a b : ℕ) → min (min a s + min b s) s ≡ min (a + b) s
capped_add s a b = omega arith

grows : (x y : ℕ) → x ≤ x * suc y
grows x y = omega arith

-- a product with a number that is greater than the last
passed_mul : (s a b : ℕ) → s < a → min (s * min b s) s ≡ min (a * b) s
passed_mul s a zero past = let none : min (s * 0) s ≡ min (a * 0) s = omega arith in ap (λ n. min (s * n) s) (zero-min s) ∙ none
passed_mul zero a (suc b) past = omega arith
passed_mul (suc s) a (suc b) past =
    let some : suc s ≤ suc s * min (suc b) (suc s) = subst (λ n. suc s ≤ suc s * n) (sym (suc-min-suc b s)) (grows (suc s) (min b s)) in
    let more : suc s ≤ a * suc b = omega (arith, grows a b) in
    min-eq_right some ∙ sym (min-eq_right more)

pub capped_mul : (s a b : ℕ) → min (min a s * min b s) s ≡ min (a * b) s
capped_mul s a b =
    ⊎_elim
    (λ past. ap (λ n. min (n * min b s) s) (min-eq_right {n = s} {m = a} (omega arith)) ∙ passed_mul s a b past)
    (λ fits. ⊎_elim
    (λ past. ap (λ n. min (min a s * n) s) (min-eq_right {n = s} {m = b} (omega arith)) ∙ ap (λ n. min n s) (omega arith) ∙ passed_mul s b a past ∙ ap (λ n. min n s) (omega arith))
    (λ other. ap (λ n. min (n * min b s) s) (min-eq_left fits) ∙ ap (λ n. min (a * n) s) (min-eq_left other))
    (cases_lt s b))
    (cases_lt s a)
