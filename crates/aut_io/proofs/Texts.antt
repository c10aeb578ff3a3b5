-- Looking a name up in a list of names, beside the list of the texts under them.
use Rattle.std.proofs.Common.{◌≡◌, ℕ, ◌+◌, ◌<◌, Bool, cond, Option, None, Some, List, [], ◌∷◌, length, get_or, drop, refl, ◌∙◌, arith, add-one, is_some, MatchOption}
use Rattle.std.proofs.Math.Seq.{drop-cons}
use Rattle.std.specs.Cmp.Lexicographic.{slice_cmp, pointwise, texts_ties, nat_list_cmp_total}
use Rattle.std.specs.FinMap.{find, contains_key, from_entries, get-from_entries}
use Rattle.std.specs.List.{zip}
use Rattle.std.specs.Ordering.{nat_cmp}
use Rattle.std.specs.Prelude.{nat_eq}
use Rattle.aut_io.specs.Outside.{text_of}
use Rattle.aut_io.specs.InMemory.{rest_of}

-- one step of the search: the name is at this index, or is looked for after it
pub find_step : (name other : List ℕ) (names texts : List (List ℕ)) (place : ℕ) → place < length names → length texts ≡ length names → other ≡ get_or names place other → (b : Bool)
    → pointwise nat_eq name other ≡ b → find (slice_cmp nat_cmp) name (zip (drop place names) (drop place texts)) ≡ cond b (Some (get_or texts place []))
    (find (slice_cmp nat_cmp) name (zip (drop (place + 1) names) (drop (place + 1) texts)))
find_step name other names texts place within same there b is =
    let first : drop place names ≡ other ∷ drop (place + 1) names = rw (add-one, there) (drop-cons names place other within) in
    let second : drop place texts ≡ get_or texts place [] ∷ drop (place + 1) texts = rw add-one (drop-cons texts place [] (omega arith)) in
    rw (first, second, ← texts_ties, is) refl

-- the index that was found is that of the text of the name
pub place_text : (name : List ℕ) (names texts : List (List ℕ)) (place : Option ℕ)
    → MatchOption place (find (slice_cmp nat_cmp) name (zip names texts) ≡ None) (λ k. (k < length texts) × (find (slice_cmp nat_cmp) name (zip names texts) ≡ Some (get_or texts k [])))
    → (is_some place ≡ contains_key (from_entries {R = slice_cmp nat_cmp} (zip names texts)) name) × (rest_of texts place 0 ≡ text_of (from_entries (zip names texts)) name)
place_text name names texts None none = let e = get-from_entries nat_list_cmp_total (zip names texts) name ∙ none in (rw e refl, rw e refl)
place_text name names texts (Some k) found = let e = get-from_entries nat_list_cmp_total (zip names texts) name ∙ found.1 in (rw e refl, rw e refl)
