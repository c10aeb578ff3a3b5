-- Comparison and copies of letters.
use Rattle.std.proofs.Common.{◌≡◌, ◌≢◌, ◌∙◌, ◌+◌, ◌<◌, ◌↔◌, Bool, IsTrue, List, ap, get_or, length, slice_get, Some, sym, take, true, false, ℕ}
use Rattle.std.specs.FinSet as set
use Rattle.std.specs.FinMap.{nat_cmp-IsAntisymmetric, slice_cmp-IsAntisymmetric}
use Rattle.std.proofs.lemmas.Cmp.{nat_list_cmp_total}
use Rattle.std.proofs.lemmas.Bool.{false≢true}
use Rattle.std.proofs.lemmas.Option.{same_Some}
use Rattle.aut_base.proofs.words.LetterNames.{insert_pushed}
use Rattle.aut_base.proofs.lists.Lists.{slice_get-at, take-push}
use Rattle.aut_base.proofs.numbers.Truth.{same_truth}
use Rattle.aut_base.specs.Word.{NameSet}
use Rattle.word_syntax.specs.inner.Periods.{IsSubset}

pub letters_same : (a b : NameSet) → IsSubset a b → IsSubset b a → a ≡ b
letters_same a b f g = set.same_set nat_list_cmp_total (slice_cmp-IsAntisymmetric nat_cmp-IsAntisymmetric) a b (λ q. same_truth (set.contains a q) (set.contains b q) (f q) (g q))

pub letters_within : (a b : NameSet) → a ≡ b → IsSubset a b
letters_within a b e name h = ap (λ (x : NameSet). set.contains x name) (sym e) ∙ h

-- another name is copied
pub name_copied : (names : List (List ℕ)) (i : ℕ) (name : List ℕ) (letter new : NameSet) → i < length names → name ≡ get_or names i name → letter ≡ set.from_list (take i names)
    → new ≡ set.insert letter name → new ≡ set.from_list (take (i + 1) names)
name_copied names i name letter new within is so_far added =
    added ∙ (ap (λ (x : NameSet). set.insert x name) so_far ∙ (sym (insert_pushed (take i names) name) ∙ ap (λ (x : List (List ℕ)). set.from_list x) (sym (take-push names i name within is))))

-- the letters at two indices differ where their comparison says so
pub differ_between : (v w : List NameSet) (i j : ℕ) (a b : NameSet) (r : Bool) → i < length v → j < length w → a ≡ get_or v i a → b ≡ get_or w j b → (IsTrue r ↔ (a ≡ b)) → r ≡ false
    → slice_get v i ≢ slice_get w j
differ_between v w i j a b r within within' is is' said unlike e =
    false≢true (sym unlike ∙ said.1 (same_Some a b (sym (slice_get-at v i a within is) ∙ (e ∙ slice_get-at w j b within' is'))))

pub same_between : (v w : List NameSet) (i j : ℕ) (a b : NameSet) (r : Bool) → i < length v → j < length w → a ≡ get_or v i a → b ≡ get_or w j b → (IsTrue r ↔ (a ≡ b)) → r ≡ true
    → slice_get v i ≡ slice_get w j
same_between v w i j a b r within within' is is' said alike = slice_get-at v i a within is ∙ (ap Some (said.0 alike) ∙ sym (slice_get-at w j b within' is'))
