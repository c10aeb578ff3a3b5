-- A letter made of a list of names has exactly the names of the list.
use Rattle.std.proofs.Common.{◌≡◌, ◌≢◌, ◌∙◌, ◌↔◌, ◌||◌, ℕ, Bool, true, false, List, [], ◌∷◌, ◌++◌, All, Contains, IsTrue, MatchBool, Result, Ok, Err, OnOk, sym, ap, refl}
use Rattle.std.specs.FinSet as set
use Rattle.std.specs.FinMap.{nat_cmp-IsAntisymmetric, slice_cmp-IsAntisymmetric}
use Rattle.std.specs.Cmp.Lexicographic.{slice_cmp}
use Rattle.std.specs.Ordering.{nat_cmp, eq_by_cmp}
use Rattle.std.proofs.lemmas.Cmp.{nat_list_cmp_total, eq_by_cmp_equiv}
use Rattle.std.proofs.lemmas.List.Elements.{All-contains}
use Rattle.std.proofs.lemmas.Map.Lookups.{exact_bytes}
use Rattle.std.proofs.lemmas.Map.Views.{tells_apart, Contains-from_any, list_any-from_Contains}

abbrev pub NameSet : Type 0
NameSet = set.FinSet (slice_cmp nat_cmp)

abbrev pub sign : List (List ℕ) → NameSet
sign names = set.from_list names

-- whether two names are the same
abbrev pub same_name : List ℕ → List ℕ → Bool
same_name = eq_by_cmp (slice_cmp nat_cmp)

contains_found : (names : List (List ℕ)) (name : List ℕ) → Contains names name → set.contains (sign names) name ≡ true
contains_found names name h = set.contains-from_list nat_list_cmp_total names name ∙ list_any-from_Contains (eq_by_cmp_equiv nat_list_cmp_total) name names h

found_contained : (names : List (List ℕ)) (name : List ℕ) → set.contains (sign names) name ≡ true → Contains names name
found_contained names name h = Contains-from_any (tells_apart exact_bytes) name names (sym (set.contains-from_list nat_list_cmp_total names name) ∙ h)

pub contains_listed : (names : List (List ℕ)) (name : List ℕ) → IsTrue (set.contains (sign names) name) ↔ Contains names name
contains_listed names name = (found_contained names name, contains_found names name)

not_true : (b : Bool) → (b ≡ true → ⊥) → false ≡ b
not_true false h = refl
not_true true h = absurd (h refl)

pub contains_as_found : (names : List (List ℕ)) (name : List ℕ) (found : Bool) → MatchBool found (Contains names name) (All (λ other. other ≢ name) names) → found ≡ set.contains (sign names) name
contains_as_found names name true h = sym (contains_found names name h)
contains_as_found names name false h = not_true _ (λ e. All-contains (λ other. other ≢ name) names name h (found_contained names name e) refl)

same_or : (b c : Bool) → (b ≡ true → c ≡ true) → c ≡ (b || c)
same_or false c h = refl
same_or true c h = h refl

pub insert_listed : (names : List (List ℕ)) (name : List ℕ) → Contains names name → sign names ≡ set.insert (sign names) name
insert_listed names name h =
    set.same_set nat_list_cmp_total (slice_cmp-IsAntisymmetric nat_cmp-IsAntisymmetric) _ _ (λ q.
    same_or (same_name q name) _ (λ e. ap (set.contains (sign names)) (tells_apart exact_bytes q name e) ∙ contains_found names name h)
    ∙ sym (set.contains-insert nat_list_cmp_total (sign names) name q))

pub insert_pushed : (names : List (List ℕ)) (name : List ℕ) → sign (names ++ name ∷ []) ≡ set.insert (sign names) name
insert_pushed names name = set.from_list_push nat_list_cmp_total (slice_cmp-IsAntisymmetric nat_cmp-IsAntisymmetric) names name

-- what a call did to a list of names, it did to the letter made of it
pub pushed_ok : {E : Type 0} (names new : List (List ℕ)) (name : List ℕ) (letter : NameSet) (result : Result (Unit {0}) E) → sign names ≡ letter → OnOk result (new ≡ names ++ name ∷ [])
    → OnOk result (sign new ≡ set.insert letter name)
pushed_ok names new name letter (Ok u) is h = ap sign h ∙ (insert_pushed names name ∙ ap (λ l. set.insert l name) is)
pushed_ok names new name letter (Err e) is h = h
