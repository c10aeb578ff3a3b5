-- Single turns of the loops over names and states.
use Rattle.std.proofs.Common.{◌≡◌, ◌∙◌, ◌+◌, ◌<◌, ℕ, suc, Bool, true, false, List, [], ◌∷◌, ◌++◌, Some, ap, arith, length, map, slice_get, sym}
use Rattle.std.proofs.lemmas.List.{map-append}
use Rattle.std.specs.List.{range_with_len}
use Rattle.aut_base.proofs.lists.Lists.{range_more}
use Rattle.safra_trees.proofs.list_step.Ranks.{names_kept, names_left, rank_at, rank_kept}
use Rattle.safra_trees.specs.inner.Names.{names_where, rank}

pub names_with : (p : ℕ → Bool) (k : ℕ) → p k ≡ true → names_where p (k + 1) ≡ names_where p k ++ k ∷ []
names_with p k is = let e : k + 1 ≡ suc k = omega arith in ap (names_where p) e ∙ names_kept p k is

pub names_without : (p : ℕ → Bool) (k : ℕ) → p k ≡ false → names_where p (k + 1) ≡ names_where p k
names_without p k is = let e : k + 1 ≡ suc k = omega arith in ap (names_where p) e ∙ names_left p k is

pub rank_with : (p : ℕ → Bool) (k : ℕ) → p k ≡ true → rank p (k + 1) ≡ rank p k + 1
rank_with p k is = let e : k + 1 ≡ suc k = omega arith in let f : rank p (k + 1) ≡ rank p (suc k) = ap (rank p) e in omega (arith, f, rank_kept p k is)

pub rank_without : (p : ℕ → Bool) (k : ℕ) → p k ≡ false → rank p (k + 1) ≡ rank p k
rank_without p k is = ap length (names_without p k is)

-- the first that passes
pub first_name : (p : ℕ → Bool) (n k : ℕ) → names_where p k ≡ [] → p k ≡ true → k < n → slice_get (names_where p n) 0 ≡ Some k
first_name p n k none is less = let e : rank p k ≡ 0 = ap length none in ap (slice_get (names_where p n)) (sym e) ∙ rank_at p k n less is

pub mapped_range : {X : Type 0} (f : ℕ → X) (k : ℕ) (xs ys : List X) (x : X) → xs ≡ map f (range_with_len 0 k) → x ≡ f k → ys ≡ xs ++ x ∷ [] → ys ≡ map f (range_with_len 0 (k + 1))
mapped_range f k xs ys x before is pushed =
    let z : 0 + k ≡ k = omega arith in
    pushed ∙ (ap (λ vs. vs ++ x ∷ []) before ∙ (ap (λ v. map f (range_with_len 0 k) ++ v ∷ []) (is ∙ ap f (sym z))
    ∙ (sym (map-append f (range_with_len 0 k) ((0 + k) ∷ [])) ∙ ap (map f) (sym (range_more 0 k)))))

pub mapped_names : {X : Type 0} (f : ℕ → X) (p : ℕ → Bool) (k : ℕ) (xs ys : List X) (x : X) → p k ≡ true → xs ≡ map f (names_where p k) → x ≡ f k → ys ≡ xs ++ x ∷ []
    → ys ≡ map f (names_where p (k + 1))
mapped_names f p k xs ys x is before one pushed =
    pushed ∙ (ap (λ vs. vs ++ x ∷ []) before ∙ (ap (λ v. map f (names_where p k) ++ v ∷ []) one
    ∙ (sym (map-append f (names_where p k) (k ∷ [])) ∙ ap (map f) (sym (names_with p k is)))))
