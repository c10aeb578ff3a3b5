-- The names of a valid automaton differ.
use Rattle.std.proofs.Common.{◌≡◌, ◌≢◌, ℕ, true, not, List, [], ◌∷◌, get_or, AllPairs, refl, sym, ap, ◌∙◌, arith}
use Rattle.std.proofs.lemmas.Bool.{false≢true, and_parts}
use Rattle.std.proofs.lemmas.List.Kept.{AllPairs-cons}
use Rattle.std.specs.Prelude.{filter_map}
use Rattle.std.specs.List.{AllByRecursion, list_all, list_any}
use Rattle.hoa_reader.proofs.labels.Meanings.{same_texts}
use Rattle.hoa_parser.specs.Raw as raw
use Rattle.hoa_parser.specs.Raw.{Written, WrittenItem}
use Rattle.aut_base.specs.Text.{same_text}
use Rattle.hoa_reader.specs.Validity.{IsValid, all_differ, names_agree, names_item, written_names}
use Rattle.aut_base.proofs.numbers.Truth.{neither}
use Rattle.std.proofs.lemmas.List.Elements.{All-from_recursion}

others_differ : (x : List ℕ) (xs : List (List ℕ)) → not (list_any (same_text x) xs) ≡ true → AllByRecursion (λ y. x ≢ y) xs
others_differ x [] e = tt
others_differ x (y ∷ ys) e =
    let parts = neither (same_text x y) (list_any (same_text x) ys) e in
    (λ same. false≢true (sym parts.0 ∙ (same_texts x y).1 same), others_differ x ys (ap not parts.1))

pub pairs_differ : (xs : List (List ℕ)) → all_differ same_text xs ≡ true → AllPairs (λ a b. a ≢ b) xs
pairs_differ [] e = λ i j d l m. absurd (omega (arith, m))
pairs_differ (x ∷ xs) e =
    let parts = and_parts _ _ e in
    AllPairs-cons (λ a b. a ≢ b) x xs (All-from_recursion (λ y. x ≢ y) xs (others_differ x xs parts.0)) (pairs_differ xs parts.1)

pub names_differ : (items : List WrittenItem) → list_all names_agree items ≡ true → all_differ same_text (get_or (filter_map names_item items) 0 []) ≡ true
names_differ [] e = refl
names_differ (raw.Ap count names ∷ items) e = (and_parts _ _ (and_parts _ _ e).0).1
names_differ (raw.States n ∷ items) e = names_differ items e
names_differ (raw.Start states ∷ items) e = names_differ items e
names_differ (raw.AliasOf name label ∷ items) e = names_differ items e
names_differ (raw.Acceptance sets formula ∷ items) e = names_differ items e
names_differ (raw.AccName ∷ items) e = names_differ items e
names_differ (raw.Tool ∷ items) e = names_differ items e
names_differ (raw.Name text ∷ items) e = names_differ items e
names_differ (raw.Properties words ∷ items) e = names_differ items e
names_differ (raw.Other name ∷ items) e = names_differ items e

pub valid_names : (w : Written) → IsValid w → AllPairs (λ a b. a ≢ b) (written_names w)
valid_names w valid = pairs_differ (written_names w) (names_differ w.items valid.1.1.1.0)
