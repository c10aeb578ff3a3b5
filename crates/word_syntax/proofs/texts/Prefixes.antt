-- The longest prefix of a list whose elements pass a test.
use Rattle.std.proofs.Common.{◌≡◌, ◌∙◌, ◌∷◌, ◌++◌, ◌+◌, Bool, List, [], ap, arith, drop, inl, inr, length, refl, subst, suc, sym, take, true, ℕ}
use Rattle.std.proofs.lemmas.Bool.{and_from, and_parts, cases_Bool, cond-false, cond-true}
use Rattle.std.specs.List.{list_all, prefix_len}
use Rattle.word_syntax.specs.inner.Nexts.{StopsAtHead}

one_plus : (n : ℕ) → 1 + n ≡ suc n
one_plus n = omega arith

pub prefix_all : (p : ℕ → Bool) (xs : List ℕ) → list_all p (take (prefix_len p xs) xs) ≡ true
prefix_all p [] = refl
prefix_all p (x ∷ xs) = elim (cases_Bool (p x)) [
  | inl e ↦ ap (λ (k : ℕ). list_all p (take k (x ∷ xs))) (cond-true _ _ _ e ∙ one_plus (prefix_len p xs)) ∙ and_from _ _ e (prefix_all p xs)
  | inr e ↦ ap (λ (k : ℕ). list_all p (take k (x ∷ xs))) (cond-false _ _ _ e)
]

pub prefix_stops : (p : ℕ → Bool) (xs : List ℕ) → StopsAtHead p (drop (prefix_len p xs) xs)
prefix_stops p [] = tt
prefix_stops p (x ∷ xs) = elim (cases_Bool (p x)) [
  | inl e ↦ subst (λ (k : ℕ). StopsAtHead p (drop k (x ∷ xs))) (sym (cond-true _ _ _ e ∙ one_plus (prefix_len p xs))) (prefix_stops p xs)
  | inr e ↦ subst (λ (k : ℕ). StopsAtHead p (drop k (x ∷ xs))) (sym (cond-false _ _ _ e)) e
]

pub prefix_before : (p : ℕ → Bool) (w rest : List ℕ) → list_all p w ≡ true → StopsAtHead p rest → prefix_len p (w ++ rest) ≡ length w
prefix_before p [] [] all stop = refl
prefix_before p [] (c ∷ cs) all stop = cond-false _ _ _ stop
prefix_before p (x ∷ w) rest all stop =
    let parts = and_parts (p x) (list_all p w) all in
    cond-true _ _ _ parts.0 ∙ (ap (λ (k : ℕ). 1 + k) (prefix_before p w rest parts.1 stop) ∙ one_plus (length w))

pub dropped : (w rest : List ℕ) → drop (length w) (w ++ rest) ≡ rest
dropped [] rest = refl
dropped (x ∷ w) rest = dropped w rest
