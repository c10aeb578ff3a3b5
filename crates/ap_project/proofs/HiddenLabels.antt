-- The truth of a label with a name hidden, and the label over the other names with this truth.
use Rattle.std.proofs.Common.{◌≡◌, ◌≢◌, ◌∙◌, ◌<◌, ℕ, Bool, false, List, [], AllPairs, Contains, Some, ap, get_or, length, not, slice_get, sym}
use Rattle.std.proofs.lemmas.List.Elements.{Contains-get_or}
use Rattle.std.proofs.lemmas.List.Kept.{AllPairs-filter}
use Rattle.std.proofs.lemmas.Option.{slice_get-get_or, slice_get_within}
use Rattle.std.specs.FinSet.{contains}
use Rattle.std.specs.Option.{option_map_or}
use Rattle.aut_base.proofs.canonical.CanonicalTruth.{truth-label_of, truth_below}
use Rattle.aut_base.proofs.lists.Members.{there_at}
use Rattle.aut_base.proofs.canonical.ValuationLetters.{letter_of_holds}
use Rattle.aut_base.proofs.canonical.ValuationLists.{holds_in-valuation_of, length-valuation_of}
use Rattle.aut_base.specs.Label.{AllBelow, LabelTree, holds_at, truth}
use Rattle.aut_base.specs.Text.{same_text}
use Rattle.aut_base.specs.Valuation.{holds_in, letter_of, valuation_of}
use Rattle.aut_base.specs.Word.{NameSet}
use Rattle.ap_project.proofs.Letters.{including, including_alike, without, without_alike}
use Rattle.ap_project.proofs.OtherNames.{is_left}
use Rattle.ap_project.specs.Hiding.{hidden_label, hidden_truth, hidden_value, names_without}
use Rattle.ap_project.specs.declared.hide.Hide.{Hide}

pub others_differ : (name : List ℕ) (names : List (List ℕ)) → AllPairs (λ p q. p ≢ q) names → AllPairs (λ p q. p ≢ q) (names_without name names)
others_differ name names differ = AllPairs-filter (λ p q. p ≢ q) (λ q. not (same_text name q)) names differ

-- the proposition of the name of this index
pub holds_there : (names : List (List ℕ)) (k : ℕ) (q : List ℕ) (x : NameSet) → slice_get names k ≡ Some q → holds_at names x k ≡ contains x q
holds_there names k q x at = ap (λ o. option_map_or (contains x) o false) at

pub letter_has : (names : List (List ℕ)) → AllPairs (λ p q. p ≢ q) names → (v : List Bool) → length v ≡ length names → (k : ℕ) (q : List ℕ) → slice_get names k ≡ Some q
    → contains (letter_of names v) q ≡ holds_in v k
letter_has names differ v long k q at = sym (holds_there names k q (letter_of names v) at) ∙ letter_of_holds names v k differ long

-- letters that have the same names of a label, but for the hidden one
pub truth_off : (how : Hide) (name : List ℕ) (names : List (List ℕ)) (t : LabelTree) (x y : NameSet) → AllBelow (length names) t
    → ((q : List ℕ) → Contains names q → q ≢ name → contains x q ≡ contains y q) → hidden_truth how name names t x ≡ hidden_truth how name names t y
truth_off how name names t x y below same = λ i. hidden_value how (fails i) (holds i)
  where
    at : (k : ℕ) → k < length names → slice_get names k ≡ Some (get_or names k [])
    at k less = slice_get-get_or names k [] less

    fails : truth (holds_at names (without name x)) t ≡ truth (holds_at names (without name y)) t
    fails = truth_below (length names) (holds_at names (without name x)) (holds_at names (without name y)) t below (λ k less.
        let q = get_or names k [] in
        holds_there names k q (without name x) (at k less) ∙ (without_alike name x y q (same q (Contains-get_or names k [] less)) ∙ sym (holds_there names k q (without name y) (at k less))))

    holds : truth (holds_at names (including name x)) t ≡ truth (holds_at names (including name y)) t
    holds = truth_below (length names) (holds_at names (including name x)) (holds_at names (including name y)) t below (λ k less.
        let q = get_or names k [] in
        holds_there names k q (including name x) (at k less) ∙ (including_alike name x y q (same q (Contains-get_or names k [] less)) ∙ sym (holds_there names k q (including name y) (at k less))))

pub label_says : (how : Hide) (name : List ℕ) (names : List (List ℕ)) (t : LabelTree) → AllPairs (λ p q. p ≢ q) names → AllBelow (length names) t → (x : NameSet)
    → truth (holds_at (names_without name names) x) (hidden_label how name names t) ≡ hidden_truth how name names t x
label_says how name names t differ below x = truth-label_of (holds_at others x) (length others) (λ w. hidden_truth how name names t (letter_of others w))
    ∙ truth_off how name names t (letter_of others v) x below same
  where
    others : List (List ℕ)
    others = names_without name names

    v : List Bool
    v = valuation_of (length others) (holds_at others x)

    same : (q : List ℕ) → Contains names q → q ≢ name → contains (letter_of others v) q ≡ contains x q
    same q there other =
        let placed = there_at others q (is_left name names q there other) in
        letter_has others (others_differ name names differ) v (length-valuation_of (length others) (holds_at others x)) placed.0 q placed.1
        ∙ (holds_in-valuation_of (length others) (holds_at others x) placed.0 (slice_get_within others placed.0 q placed.1) ∙ holds_there others placed.0 q x placed.1)
