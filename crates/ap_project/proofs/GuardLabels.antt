-- Guards with a proposition hidden: their truth, in stores that have grown and over the other names.
use Rattle.std.proofs.Common.{◌≡◌, ◌≢◌, ◌∙◌, ◌<◌, ℕ, Bool, true, false, cond, if◌then◌else◌, List, [], AllPairs, Some, ap, arith}
use Rattle.std.proofs.Common.{inr, suc, zero}
use Rattle.std.proofs.Common.{length, nat_eq, refl, slice_get, subst, sym}
use Rattle.std.proofs.lemmas.List.Elements.{Contains-get_or}
use Rattle.std.proofs.lemmas.Option.{same_Some, slice_get-get_or}
use Rattle.std.specs.FinSet.{contains}
use Rattle.std.specs.List.{slice_index_or}
use Rattle.std.specs.Map.{lookup}
use Rattle.std.proofs.lemmas.Bool.{eqb-true}
use Rattle.aut_base.proofs.canonical.CanonicalTruth.{label_of-same, truth_below}
use Rattle.aut_base.specs.CanonicalLabel.{label_of_truth}
use Rattle.aut_base.specs.Label.{holds_at, truth}
use Rattle.aut_base.specs.Valuation.{holds_in, letter_of, truth_on}
use Rattle.aut_base.specs.Word.{NameSet}
use Rattle.aut_core.proofs.Made.{label_in_below, label_in_settled}
use Rattle.label_guards.proofs.rebuilt.Dependence.{all_go_below}
use Rattle.label_guards.specs.Guards.{GoesBelow, IsFreeOf, IsGuardOf, truth_in, with_prop}
use Rattle.label_guards.specs.Store.{Has, Keeps, Store, label_in}
use Rattle.label_guards.specs.declared.guard.Guard.{Guard}
use Rattle.ap_project.proofs.HiddenLabels.{holds_there, letter_has, others_differ}
use Rattle.ap_project.proofs.Letters.{SameBut, but_including, but_without, has_name, including, lacks_name, without}
use Rattle.ap_project.proofs.OtherNames.{apart, is_left}
use Rattle.ap_project.specs.Hiding.{hidden_label, hidden_truth, hidden_value, names_without}
use Rattle.ap_project.specs.declared.hide.Hide.{Hide}
use Rattle.ap_project.specs.inner.HiddenGuards.{AreHidden, ArePlacesOfNames, ArePlacesWithin, IsHiddenGuard, IsGuardInserted, hidden_in, name_at, same_guard}

other_number : (a b : ℕ) → nat_eq a b ≡ false → a ≢ b
other_number a b e = grind arith

kept_truth : {s t : Store} → Keeps s t → (g : Guard) → Has s g → (on : ℕ → Bool) → truth_in t g on ≡ truth_in s g on
kept_truth keeps g has on = ap (truth on) (keeps.labels g has)

pub hidden_kept_in : {s t : Store} → Keeps s t → (how : Hide) (prop : ℕ) (g : Guard) → Has s g → (on : ℕ → Bool) → hidden_in t how prop g on ≡ hidden_in s how prop g on
hidden_kept_in keeps how prop g has on = λ i. hidden_value how (kept_truth keeps g has (with_prop on prop false) i) (kept_truth keeps g has (with_prop on prop true) i)

-- under larger stores
pub hidden_kept : {s t more_s more_t : Store} → Keeps s more_s → Keeps t more_t → (how : Hide) (prop : ℕ) (to : List ℕ) (g h : Guard) → IsHiddenGuard s t how prop to g h
    → IsHiddenGuard more_s more_t how prop to g h
hidden_kept {s} {t} first second how prop to g h is = record {
  from = first.has g is.from;
  has = second.has h is.has;
  truth = λ on. kept_truth second h is.has on ∙ (is.truth on ∙ sym (hidden_kept_in first how prop g is.from (λ k. on (slice_index_or to k 0))));
}

-- from a store that has grown back to the one before, which had the guard
pub hidden_before : {s more_s : Store} (t : Store) → Keeps s more_s → (how : Hide) (prop : ℕ) (to : List ℕ) (g h : Guard) → Has s g → IsHiddenGuard more_s t how prop to g h
    → IsHiddenGuard s t how prop to g h
hidden_before t keeps how prop to g h has is = record {
  from = has;
  has = is.has;
  truth = λ on. is.truth on ∙ hidden_kept_in keeps how prop g has (λ k. on (slice_index_or to k 0));
}

pub table_kept : {s t more_s more_t : Store} → Keeps s more_s → Keeps t more_t → (how : Hide) (prop : ℕ) (to : List ℕ) (entries : List (Guard × Guard))
    → AreHidden s t how prop to entries → AreHidden more_s more_t how prop to entries
table_kept first second how prop to entries are = λ g h found. hidden_kept first second how prop to g h (are g h found)

pub table_more : (s t : Store) (how : Hide) (prop : ℕ) (to : List ℕ) (old new : List (Guard × Guard)) (g found : Guard) → IsGuardInserted old new g found → AreHidden s t how prop to old
    → IsHiddenGuard s t how prop to g found → AreHidden s t how prop to new
table_more s t how prop to old new g found put are is = λ q h e. by_cases q h (same_guard g q) refl (sym (put q) ∙ e)
  where
    by_cases : (q h : Guard) (b : Bool) → same_guard g q ≡ b → cond (same_guard g q) (Some found) (lookup (same_guard q) old) ≡ Some h → IsHiddenGuard s t how prop to q h
    by_cases q h false differ e = are q h (sym (ap (λ b. cond b (Some found) (lookup (same_guard q) old)) differ) ∙ e)
    by_cases q h true same e =
        let value : found ≡ h = same_Some found h (sym (ap (λ b. cond b (Some found) (lookup (same_guard q) old)) same) ∙ e) in
        let place = eqb-true g.place q.place same in
        let key : g ≡ q = λ i. record { place = place i } in
        subst (λ (x : Guard). IsHiddenGuard s t how prop to x h) key (subst (IsHiddenGuard s t how prop to g) value is)

-- hidden within one store, and then moved into the other
pub hidden_moved : {s more t : Store} (how : Hide) (prop : ℕ) (to : List ℕ) (g hidden h : Guard) → Has s g → IsGuardOf more (hidden_in s how prop g) hidden
    → IsGuardOf t (λ on. truth_in more hidden (λ k. on (slice_index_or to k 0))) h → IsHiddenGuard s t how prop to g h
hidden_moved how prop to g hidden h has first second = record {
  from = has;
  has = second.has;
  truth = λ on. second.truth on ∙ first.truth (λ k. on (slice_index_or to k 0));
}

-- with its only proposition hidden a guard is constant
only_hidden : (s more : Store) (how : Hide) (prop : ℕ) (g hidden : Guard) → s.names ≡ 1 → prop < s.names → IsGuardOf more (hidden_in s how prop g) hidden → (k : ℕ) → IsFreeOf more hidden k
only_hidden s more how prop g hidden one within is k on = is.truth set ∙ ((λ i. hidden_value how (alike false i) (alike true i)) ∙ sym (is.truth unset))
  where
    set : ℕ → Bool
    set = with_prop on k true

    unset : ℕ → Bool
    unset = with_prop on k false

    alike : (b : Bool) → truth_in s g (with_prop set prop b) ≡ truth_in s g (with_prop unset prop b)
    alike b = truth_below s.names (with_prop set prop b) (with_prop unset prop b) (label_in s g) (label_in_below s g) (λ j less.
        let same : j ≡ prop = omega (arith, one, within, less) in
        let test : nat_eq j prop ≡ true = grind (arith, same) in
        (λ i. if test i then b else set j) ∙ sym (λ i. if test i then b else unset j))

-- Each proposition on which it depends has its index among the others, if there are others.
pub hidden_goes_below : (s more : Store) (how : Hide) (prop : ℕ) (to : List ℕ) (g hidden : Guard) (count : ℕ) → prop < s.names → (count ≡ 0 → s.names ≡ 1) → length to ≡ more.names
    → ArePlacesWithin count to
    → IsGuardOf more (hidden_in s how prop g) hidden → GoesBelow count (λ k. slice_index_or to k 0) more hidden
hidden_goes_below s more how prop to g hidden zero within alone long places is k less = inr (only_hidden s more how prop g hidden (alone (λ i. 0)) within is k)
hidden_goes_below s more how prop to g hidden (suc count) within alone long places is k less = all_go_below (suc count) to more hidden long (places (omega arith)) k less

-- the label over the other names
module _ (s t : Store) (names : List (List ℕ)) (how : Hide) (prop : ℕ) (to : List ℕ) (g h : Guard) (within : prop < length names) (differ : AllPairs (λ p q. p ≢ q) names)
    (old_names : s.names ≡ length names) (new_names : t.names ≡ length (names_without (name_at names prop) names))
    (placed : ArePlacesOfNames names (names_without (name_at names prop) names) to) (is : IsHiddenGuard s t how prop to g h) where
  abbrev others : List (List ℕ)
  others = names_without (name_at names prop) names

  -- with the proposition set, at a letter with the name taken out or put in
  set_at : (v : List Bool) → length v ≡ length others → (b : Bool) (y : NameSet) → SameBut (name_at names prop) (letter_of others v) y → contains y (name_at names prop) ≡ b
      → truth_in s g (with_prop (λ k. holds_in v (slice_index_or to k 0)) prop b) ≡ truth (holds_at names y) (label_in s g)
  set_at v long b y but here = truth_below s.names (with_prop (λ k. holds_in v (slice_index_or to k 0)) prop b) (holds_at names y) (label_in s g) (label_in_below s g)
      (λ k less. by_cases k (omega (arith, less, old_names)) (nat_eq k prop) refl)
    where
      by_cases : (k : ℕ) → k < length names → (e : Bool) → nat_eq k prop ≡ e → with_prop (λ k. holds_in v (slice_index_or to k 0)) prop b k ≡ holds_at names y k
      by_cases k less true e =
          let same = eqb-true k prop e in
          ap (λ c. if c then b else holds_in v (slice_index_or to k 0)) e
          ∙ (sym here ∙ sym (ap (holds_at names y) same ∙ holds_there names prop (name_at names prop) y (slice_get-get_or names prop [] within)))
      by_cases k less false e =
          let q = name_at names k in
          let at : slice_get names k ≡ Some q = slice_get-get_or names k [] less in
          let other : q ≢ name_at names prop = apart names differ k prop (other_number k prop e) less within in
          let there = placed.places k q at (is_left (name_at names prop) names q (Contains-get_or names k [] less) other) in
          ap (λ c. if c then b else holds_in v (slice_index_or to k 0)) e
          ∙ (sym (letter_has others (others_differ (name_at names prop) names differ) v long (slice_index_or to k 0) q there) ∙ (but q other ∙ sym (holds_there names k q y at)))

  pub hidden_label_in : label_in t h ≡ hidden_label how (name_at names prop) names (label_in s g)
  hidden_label_in =
      let n = name_at names prop in
      let at : (v : List Bool) → length v ≡ t.names → truth_on (label_in t h) v ≡ hidden_truth how n names (label_in s g) (letter_of others v) = λ v long.
      let x = letter_of others v in
      is.truth (holds_in v) ∙ (λ i. hidden_value how (set_at v (long ∙ new_names) false (without n x) (but_without n x) (lacks_name n x) i)
      (set_at v (long ∙ new_names) true (including n x) (but_including n x) (has_name n x) i)) in
      sym (label_in_settled t h) ∙ (label_of-same t.names (truth_on (label_in t h)) (λ v. hidden_truth how n names (label_in s g) (letter_of others v)) at
      ∙ ap (λ m. label_of_truth m (λ v. hidden_truth how n names (label_in s g) (letter_of others v))) new_names)
