-- A text is cut at its first dot, and the dots of a range are the first.
use Rattle.std.proofs.Common.{◌≡◌, ℕ, List, ◌∷◌, ◌++◌, Option, Some, None, codes, subst, Bor, lit<}
use Rattle.std.specs.Prelude.{MatchOption}
use Rattle.std.specs.Str.Parse.{AllDigits}
use Rattle.std.proofs.lemmas.Str.Pattern.{IsSplitOnceResult, split_after}
use Rattle.filter_plan.proofs.RangeTexts.{no_dots}

cuts : (text : List ℕ) (r : Option (Bor (List ℕ) × Bor (List ℕ))) → IsSplitOnceResult 46 text r → (a b : List ℕ) → AllDigits 10 a → text ≡ a ++ (codes ".." ++ b)
    → MatchOption r ⊥ (λ x. (x.0.now ≡ a) × (x.1.now ≡ 46 ∷ b))
cuts text r is a b digits split = split_after 46 text a (46 ∷ b) r is (lit< tt) split (no_dots a digits)

pub cut_none : (text : List ℕ) (r : Option (Bor (List ℕ) × Bor (List ℕ))) → IsSplitOnceResult 46 text r → r ≡ None → (a b : List ℕ) → AllDigits 10 a → text ≡ a ++ (codes ".." ++ b) → ⊥
cut_none text r is none a b digits split = subst (λ o. MatchOption o ⊥ (λ x. (x.0.now ≡ a) × (x.1.now ≡ 46 ∷ b))) none (cuts text r is a b digits split)

pub cut_found : (text : List ℕ) (r : Option (Bor (List ℕ) × Bor (List ℕ))) (before rest : Bor (List ℕ)) → IsSplitOnceResult 46 text r → r ≡ Some (before, rest) → (a b : List ℕ)
    → AllDigits 10 a → text ≡ a ++ (codes ".." ++ b)
    → (before.now ≡ a) × (rest.now ≡ 46 ∷ b)
cut_found text r before rest is found a b digits split = subst (λ o. MatchOption o ⊥ (λ x. (x.0.now ≡ a) × (x.1.now ≡ 46 ∷ b))) found (cuts text r is a b digits split)
