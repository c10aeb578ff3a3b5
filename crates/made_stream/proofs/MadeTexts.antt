-- The text of a name, where the generated text is the only one.
use Rattle.std.proofs.Common.{◌≡◌, ℕ, true, false, List, [], ◌∷◌, refl}
use Rattle.std.specs.Cmp.Lexicographic.{nat_list_cmp_total, texts_ties}
use Rattle.std.specs.FinMap.{get-from_entries}
use Rattle.std.specs.List.{flat_map, range_with_len}
use Rattle.aut_base.specs.Text.{same_text}
use Rattle.aut_io.specs.Outside.{text_of}
use Rattle.made_stream.specs.Made.{made_name, made_texts, ring_text}

pub text_of_made :
    (count : ℕ) (name : List ℕ) → same_text name made_name ≡ true →
    text_of (made_texts count) name ≡ flat_map ring_text (range_with_len 1 count)
text_of_made count name same =
    let found = get-from_entries nat_list_cmp_total ((made_name, flat_map ring_text (range_with_len 1 count)) ∷ []) name in
    rw (found, ← texts_ties name made_name, same) refl

pub text_of_other :
    (count : ℕ) (name : List ℕ) → same_text name made_name ≡ false → text_of (made_texts count) name ≡ []
text_of_other count name other =
    let found = get-from_entries nat_list_cmp_total ((made_name, flat_map ring_text (range_with_len 1 count)) ∷ []) name in
    rw (found, ← texts_ties name made_name, other) refl
