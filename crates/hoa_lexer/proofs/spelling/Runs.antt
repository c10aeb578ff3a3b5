-- Runs of the bytes at hand that pass a test.
use Rattle.std.proofs.Common.{◌≡◌, ℕ, suc, ◌+◌, ◌≤◌, Bool, true, false, cond, List, [], ◌∷◌, ◌++◌, length, take, Option, Some, None}
use Rattle.std.proofs.Common.{refl, sym, ◌∙◌, ap, arith}
use Rattle.std.specs.List.{list_all, prefix_len}
use Rattle.std.proofs.lemmas.Bool.{and_from}
use Rattle.std.proofs.lemmas.List.{length-take-le, take-take}
use Rattle.std.proofs.lemmas.List.Sums.{prefix_len-le-length}
use Rattle.aut_io.specs.Outside.{Consumes}
use Rattle.hoa_lexer.specs.Bytes.{is_word}
use Rattle.hoa_lexer.specs.Reading.{Between}
use Rattle.hoa_lexer.specs.inner.Steps.{AddsWord}

-- the bytes that were passed are those between what was left before and what is left after
pub passed : (a b : Option (List ℕ)) (bytes : List ℕ) → Consumes a bytes b → Between a b (λ x y. x ≡ bytes ++ y)
passed None b bytes p = p
passed (Some x) None bytes p = absurd p
passed (Some x) (Some y) bytes p = p

front_step : (p : ℕ → Bool) (x : ℕ) (xs : List ℕ) (b : Bool) → p x ≡ b → list_all p (take (prefix_len p xs) xs) ≡ true
    → list_all p (take (cond b (1 + prefix_len p xs) 0) (x ∷ xs)) ≡ true
front_step p x xs false e h = refl
front_step p x xs true e h =
    let on : 1 + prefix_len p xs ≡ suc (prefix_len p xs) = omega arith in
    ap (λ k. list_all p (take k (x ∷ xs))) on ∙ and_from (p x) (list_all p (take (prefix_len p xs) xs)) e h

-- the prefix of those that pass a test passes it
pub front_passes : (p : ℕ → Bool) (xs : List ℕ) → list_all p (take (prefix_len p xs) xs) ≡ true
front_passes p [] = refl
front_passes p (x ∷ xs) = front_step p x xs (p x) refl (front_passes p xs)

-- the run that a part begins with is letters, digits and `-`
pub run_words : (bytes : List ℕ) (most run : ℕ) → run ≡ prefix_len is_word (take most bytes) → most ≤ length bytes
    → list_all is_word (take run bytes) ≡ true
run_words bytes most run e l =
    let short : run ≤ most = omega (arith, e, prefix_len-le-length is_word (take most bytes), length-take-le most bytes l) in
    rw (← take-take run most bytes short) (rw (sym e) at (front_passes is_word (take most bytes)))

-- a run was added to a name
pub adds_run : (name name' run x y : List ℕ) → name' ≡ name ++ run → list_all is_word run ≡ true → x ≡ run ++ y → AddsWord name name' x y
adds_run name name' run x y n w e = record { seen = run; named = n; words = w; split = e }
