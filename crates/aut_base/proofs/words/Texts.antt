-- Comparison of texts, and the search for a text in a list.
use Rattle.std.proofs.Common.{◌≡◌, ◌≢◌, ◌∙◌, ℕ, ◌+◌, ◌<◌, ◌≤◌, true, false, List, length, get_or, sym, ap, refl, All, slice_get, Some, nat_eq, arith}
use Rattle.std.specs.Cmp.Lexicographic.{pointwise, texts_ties}
use Rattle.std.proofs.lemmas.Bool.{false_from_ne_true, false≢true}
use Rattle.std.proofs.lemmas.List.{get_or_read}
use Rattle.std.proofs.lemmas.Option.{slice_get_read}
use Rattle.std.proofs.lemmas.Map.Lookups.{exact_bytes}
use Rattle.std.proofs.lemmas.Map.Views.{tells_apart}
use borrow.Author.Count.{below_more}
use Rattle.std.proofs.lemmas.Cmp.{nat_list_eq_equiv}

pub same_text : (x y : List ℕ) → pointwise nat_eq x y ≡ true → x ≡ y
same_text x y h = tells_apart exact_bytes x y (sym (texts_ties x y) ∙ h)

pub other_text : (x y : List ℕ) → pointwise nat_eq x y ≡ false → x ≢ y
other_text x y h e = false≢true (sym h ∙ (ap (λ z. pointwise nat_eq x z) (sym e) ∙ nat_list_eq_equiv.refl x))

-- none of the first `n` texts is this one
abbrev pub NotBefore : List (List ℕ) → List ℕ → ℕ → Type 0
NotBefore texts text n = (k : ℕ) (other : List ℕ) → k < n → get_or texts k other ≢ text

pub not_before_more : (texts : List (List ℕ)) (text : List ℕ) (n : ℕ) (x : List ℕ) → n < length texts → x ≡ get_or texts n x → x ≢ text → NotBefore texts text n → NotBefore texts text (n + 1)
not_before_more texts text n x within read here before k other =
    below_more (λ k. get_or texts k other ≢ text) n (λ k lt. before k other lt) (λ e. here (get_or_read texts n x within read other ∙ e)) k

pub none_is : (texts : List (List ℕ)) (text : List ℕ) (n : ℕ) → length texts ≤ n → NotBefore texts text n → All (λ other. other ≢ text) texts
none_is texts text n all before = λ k other within. before k other (omega arith)

pub is_there : (texts : List (List ℕ)) (text : List ℕ) (n : ℕ) (x : List ℕ) → n < length texts → x ≡ get_or texts n x → x ≡ text → slice_get texts n ≡ Some text
is_there texts text n x within read e = slice_get_read texts (length texts) n x refl within read ∙ ap Some e

pub differ_texts : (x y : List ℕ) → x ≢ y → pointwise nat_eq x y ≡ false
differ_texts x y h = false_from_ne_true (pointwise nat_eq x y) (λ e. h (same_text x y e))
