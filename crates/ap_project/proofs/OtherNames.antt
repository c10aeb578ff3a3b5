-- The names of a list but for one of them.
use Rattle.std.proofs.Common.{◌≡◌, ◌≢◌, ◌∙◌, ◌+◌, ◌<◌, ◌≤◌, ⊎_elim, ℕ, zero, suc, Bool, true, false, cond, not, List, [], ◌∷◌, ◌++◌, All, AllPairs, Contains, Some, ap, arith, get_or}
use Rattle.std.proofs.Common.{length, length-take, refl, slice_get, subst, sym, take}
use Rattle.std.proofs.lemmas.Bool.{cases_order}
use Rattle.std.proofs.lemmas.List.{append-nil, get_or-take}
use Rattle.std.proofs.lemmas.List.Elements.{All-filter, Contains-get_or, filter-append}
use Rattle.std.proofs.lemmas.List.Filters.{length-filter_both}
use Rattle.std.proofs.lemmas.Option.{get_or_from_slice_get, slice_get-get_or}
use Rattle.aut_base.proofs.lists.Lists.{take-push}
use Rattle.aut_base.proofs.lists.Members.{there_filter}
use Rattle.aut_base.proofs.words.Texts.{differ_texts}
use Rattle.aut_base.proofs.numbers.Truth.{left_of_or, right_of_or}
use Rattle.aut_base.specs.Text as text
use Rattle.aut_core.specs.OtherNames.{is_among}
use Rattle.ap_project.specs.Hiding.{names_without}
use Rattle.ap_project.specs.inner.HiddenGuards.{name_at}

pub apart : (names : List (List ℕ)) → AllPairs (λ p q. p ≢ q) names → (i k : ℕ) → i ≢ k → i < length names → k < length names → name_at names i ≢ name_at names k
apart names differ i k away here there e =
    ⊎_elim (λ (same : i ≡ k). away same) (⊎_elim (λ (less : i < k). differ i k [] less there e) (λ (less : k < i). differ k i [] less here (sym e))) (cases_order i k)

-- every other name is left
pub is_left : (name : List ℕ) (names : List (List ℕ)) (q : List ℕ) → Contains names q → q ≢ name → Contains (names_without name names) q
is_left name names q there other = there_filter (λ q. not (text.same_text name q)) names q there (ap not (differ_texts name q (λ e. other (sym e))))

pub fewer : (name : List ℕ) (names : List (List ℕ)) → length (names_without name names) ≤ length names
fewer name names =
    let both = length-filter_both (λ q. not (text.same_text name q)) (λ q. not (not (text.same_text name q))) (λ q. refl) names in
    omega (arith, both)

pub fewer_so_far : (name : List ℕ) (names others : List (List ℕ)) (k : ℕ) → others ≡ names_without name (take k names) → length others ≤ length names
fewer_so_far name names others k so_far = omega (arith, ap length so_far, fewer name (take k names), length-take k names)

-- where no other name is left, the list has one name
pub only_name : (names : List (List ℕ)) → AllPairs (λ p q. p ≢ q) names → (prop : ℕ) → prop < length names → length (names_without (name_at names prop) names) ≡ 0 → length names ≡ 1
only_name names differ zero within none = ⊎_elim at_one (⊎_elim below above) (cases_order (length names) 1)
  where
    at_one : length names ≡ 1 → length names ≡ 1
    at_one same = same

    below : length names < 1 → length names ≡ 1
    below less = absurd (omega (arith, less, within))

    above : 1 < length names → length names ≡ 1
    above more =
        let there = is_left (name_at names 0) names (name_at names 1) (Contains-get_or names 1 [] more) (apart names differ 1 0 (λ e. absurd (omega (arith, e))) more within) in
        absurd (omega (arith, there.1, none))
only_name names differ (suc p) within none =
    let some : 0 < length names = omega (arith, within) in
    let there = is_left (name_at names (suc p)) names (name_at names 0) (Contains-get_or names 0 [] some) (apart names differ 0 (suc p) (λ e. absurd (omega (arith, e))) some within) in
    absurd (omega (arith, there.1, none))

-- taking out a name that isn't in the list changes nothing
pub all_left : (name : List ℕ) (names : List (List ℕ)) → is_among names name ≡ false → names_without name names ≡ names
all_left name [] e = refl
all_left name (q ∷ qs) e =
    let first = left_of_or (text.same_text name q) (is_among qs name) e in
    let rest = all_left name qs (right_of_or (text.same_text name q) (is_among qs name) e) in
    ap (λ b. cond (not b) (q ∷ names_without name qs) (names_without name qs)) first ∙ ap (λ ns. q ∷ ns) rest

-- the names that are left, after one more turn of the loop
other_names_up_to_next : (name : List ℕ) (names : List (List ℕ)) (k : ℕ) (x : List ℕ) (is : Bool) → k < length names → x ≡ get_or names k x → text.same_text name x ≡ is
    → names_without name (take (k + 1) names) ≡ names_without name (take k names) ++ cond (not is) (x ∷ []) []
other_names_up_to_next name names k x is within at e =
    ap (names_without name) (take-push names k x within at)
    ∙ (filter-append (λ q. not (text.same_text name q)) (take k names) (x ∷ []) ∙ ap (λ b. names_without name (take k names) ++ cond (not b) (x ∷ []) []) e)

pub left_out : (name : List ℕ) (names others : List (List ℕ)) (k : ℕ) (x : List ℕ) → k < length names → x ≡ get_or names k x → others ≡ names_without name (take k names)
    → text.same_text name x ≡ true → others ≡ names_without name (take (k + 1) names)
left_out name names others k x within at so_far is = so_far ∙ sym (other_names_up_to_next name names k x true within at is ∙ append-nil _)

pub taken_on : (name : List ℕ) (names others new : List (List ℕ)) (k : ℕ) (x y : List ℕ) → k < length names → x ≡ get_or names k x → others ≡ names_without name (take k names)
    → text.same_text name x ≡ false → y ≡ x → new ≡ others ++ y ∷ [] → new ≡ names_without name (take (k + 1) names)
taken_on name names others new k x y within at so_far differ same pushed =
    pushed ∙ (ap (λ ns. ns ++ y ∷ []) so_far ∙ (ap (λ z. names_without name (take k names) ++ z ∷ []) same ∙ sym (other_names_up_to_next name names k x false within at differ)))

pub apart_so_far : (name : List ℕ) (names others : List (List ℕ)) (k : ℕ) (x y : List ℕ) → AllPairs (λ p q. p ≢ q) names → k < length names → x ≡ get_or names k x
    → others ≡ names_without name (take k names) → y ≡ x → All (λ q. q ≢ y) others
apart_so_far name names others k x y differ within at so_far same =
    let here : slice_get names k ≡ Some (get_or names k x) = slice_get-get_or names k x within in
    let earlier : All (λ q. q ≢ x) (take k names) = λ i d l e.
    let less : i < k = omega (arith, l, length-take k names) in
    let read : get_or names k d ≡ x = get_or_from_slice_get names k (get_or names k x) d here ∙ sym at in
    differ i k d less within (sym (get_or-take k names i d less) ∙ (e ∙ sym read)) in
    subst (λ ns. All (λ q. q ≢ y) ns) (sym so_far) (subst (λ z. All (λ q. q ≢ z) (names_without name (take k names))) (sym same)
    (All-filter (λ q. not (text.same_text name q)) (λ q. q ≢ x) (take k names) earlier))
