-- Numbers that rise differ.
use Rattle.std.proofs.Common.{◌≡◌, ◌==◌, ◌<◌, ◌≤◌, ◌+◌, ◌||◌, ◌∙◌, ℕ, true, false, not, List, [], ◌∷◌, refl, ap, arith}
use Rattle.std.proofs.lemmas.Bool.{and_from, and_parts, leb-true, ne_eqb}
use Rattle.std.specs.List.{list_any}
use Rattle.hoa_reader.specs.Validity.{all_differ}
use Rattle.hoa_reader.specs.inner.Rising.{rises_from}

none_repeats : (least k : ℕ) (xs : List ℕ) → rises_from least xs ≡ true → k < least → list_any (λ x. k == x) xs ≡ false
none_repeats least k [] e l = refl
none_repeats least k (x ∷ xs) e l =
    let parts = and_parts _ _ e in
    let up : least ≤ x = leb-true least x parts.0 in
    ap (λ b. b || list_any (λ x. k == x) xs) (ne_eqb k x (λ same. omega (arith, same, up, l))) ∙ none_repeats (x + 1) k xs parts.1 (omega (arith, up, l))

pub rising_differ : (least : ℕ) (xs : List ℕ) → rises_from least xs ≡ true → all_differ ◌==◌ xs ≡ true
rising_differ least [] e = refl
rising_differ least (x ∷ xs) e =
    let rest = (and_parts _ _ e).1 in
    and_from _ _ (ap not (none_repeats (x + 1) x xs rest (omega arith))) (rising_differ (x + 1) xs rest)
