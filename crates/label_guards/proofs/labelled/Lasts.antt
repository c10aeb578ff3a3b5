-- Places of the last propositions of a number: one proposition more, another number, and a store that keeps them.
use Rattle.std.proofs.Common.{◌≡◌, inl, inr, ℕ, zero, suc, ◌+◌, ◌-◌, ◌/◌, ◌%◌, ◌^◌, ◌==◌, ◌<◌, ◌≤◌, ◌∙◌, Bool, true, false, ◌&&◌, List, []}
use Rattle.std.proofs.Common.{◌∷◌, ◌++◌, ap, arith, drop, get_or, length, length-append, refl, slice_get, Some, subst, sym, take}
use Rattle.std.proofs.Math.Nat.{div-div-eq-div-mul}
use Rattle.std.proofs.lemmas.Bool.{cases_lt}
use Rattle.std.proofs.lemmas.List.{length-take, take-append-drop}
use Rattle.std.proofs.lemmas.Nat.{pow-add}
use Rattle.std.proofs.lemmas.Option.{slice_get_within}
use Rattle.std.specs.Bool.{beq}
use Rattle.aut_base.proofs.lists.Lists.{slice_get-append_left, slice_get-at, slice_get-push_cases}
use Rattle.aut_base.specs.Label.{LabelTree, truth}
use Rattle.label_guards.specs.Guards.{truth_in, with_prop}
use Rattle.label_guards.specs.Letters.{AreLastPlaces, IsLastPlace, LastLetter}
use Rattle.label_guards.specs.Nodes.{Grows, IsReducedDiagram, level}
use Rattle.label_guards.specs.Numbers.{is_at, is_set, last_at}
use Rattle.label_guards.specs.Store.{HasPlace, Keeps, Store, outcome}
use Rattle.label_guards.specs.Tables.{PlaceGoesBelow}
use Rattle.label_guards.proofs.diagrams.Agreement.{fixed-later}
use Rattle.label_guards.proofs.diagrams.Reduced.{node_of}
use Rattle.label_guards.proofs.labelled.LabelTruth.{always_is, at, truth_is}
use Rattle.label_guards.proofs.rebuilt.Dependence.{node_goes_below}

together : (a b c : Bool) → (a && (b && c)) ≡ ((a && b) && c)
together true b c = refl
together false b c = refl

itself : (b : Bool) → (b && true) ≡ b
itself true = refl
itself false = refl

-- the first propositions, and the last ones
last_is_at : (number n count : ℕ) (on : ℕ → Bool) → count ≤ n → (is_at number (n - count) on && last_at number n count on) ≡ is_at number n on
last_is_at number n zero on within = let whole : n - 0 ≡ n = omega arith in itself (is_at number (n - 0) on) ∙ ap (λ m. is_at number m on) whole
last_is_at number n (suc count) on within =
    let i : ℕ = n - suc count in
    let next : suc i ≡ n - count = omega (arith, within) in
    together (is_at number i on) (beq (on i) (is_set number i)) (last_at number n count on)
    ∙ (ap (λ m. is_at number m on && last_at number n count on) next ∙ last_is_at number n count on (omega (arith, within)))

-- all of them
pub all_last : (number n : ℕ) (on : ℕ → Bool) → last_at number n n on ≡ is_at number n on
all_last number n on =
    let none : 0 ≡ n - n = omega arith in
    ap (λ m. is_at number m on && last_at number n n on) none ∙ last_is_at number n n on (omega arith)

-- The propositions before the last ones have no part in it.
last_free : (number n count : ℕ) (on : ℕ → Bool) (prop : ℕ) (value : Bool) → prop < n - count → last_at number n count (with_prop on prop value) ≡ last_at number n count on
last_free number n zero on prop value before = refl
last_free number n (suc count) on prop value before =
    λ i. beq (fixed-later on prop value (n - suc count) before i) (is_set number (n - suc count)) && last_free number n count on prop value (omega (arith, before)) i

bit_same : (a b h i : ℕ) → h ≤ i → a / 2 ^ h ≡ b / 2 ^ h → is_set a i ≡ is_set b i
bit_same a b h i from same =
    let up : h + (i - h) ≡ i = omega (arith, from) in
    let parted : (m : ℕ) → m / 2 ^ i ≡ m / 2 ^ h / 2 ^ (i - h) = λ m. ap (λ k. m / 2 ^ k) (sym up) ∙ (ap (λ k. m / k) (pow-add 2 h (i - h)) ∙ sym (div-div-eq-div-mul m (2 ^ h) (2 ^ (i - h)))) in
    ap (λ k. k % 2 == 1) (parted a ∙ (ap (λ k. k / 2 ^ (i - h)) same ∙ sym (parted b)))

-- Numbers with the same bits from one on.
last_same : (a b n h count : ℕ) (on : ℕ → Bool) → h + count ≤ n → a / 2 ^ h ≡ b / 2 ^ h → last_at a n count on ≡ last_at b n count on
last_same a b n h zero on within same = refl
last_same a b n h (suc count) on within same =
    λ i. beq (on (n - suc count)) (bit_same a b h (n - suc count) (omega (arith, within)) same i) && last_same a b n h count on (omega (arith, within)) same i

-- A place of the last propositions asks for none of those before them.
last_goes_below : (s : Store) → IsReducedDiagram s.names s.nodes → (number count place : ℕ) → IsLastPlace s number count place → PlaceGoesBelow (count + 1) (λ k. s.names - k) s place
last_goes_below s is number count place last prop within = elim (cases_lt prop (s.names - count)) [
  | inl before ↦ inr (λ on. sym (truth_is s is (at place) last.has (with_prop on prop true)) ∙ (same on before ∙ truth_is s is (at place) last.has (with_prop on prop false)))
  | inr from ↦ inl (omega (arith, from, within))
]
  where
    same : (on : ℕ → Bool) → prop < s.names - count → truth_in s (at place) (with_prop on prop true) ≡ truth_in s (at place) (with_prop on prop false)
    same on before =
        last.truth (with_prop on prop true) ∙ (last_free number s.names count on prop true before
        ∙ (sym (last_free number s.names count on prop false before) ∙ sym (last.truth (with_prop on prop false))))

pub last_later : (s : Store) → IsReducedDiagram s.names s.nodes → (number count place : ℕ) → IsLastPlace s number count place → s.names ≤ count + level s place
last_later s is number count zero last = omega arith
last_later s is number count (suc zero) last = omega arith
last_later s is number count (suc (suc i)) last =
    let got = node_of s is (suc (suc i)) (omega arith) last.has in
    let asks = got.1.level in
    let within = got.1.node.within in
    let below = node_goes_below (count + 1) (λ k. s.names - k) s (suc (suc i)) got.0 is last.has got.1 (last_goes_below s is number count (suc (suc i)) last) in
    omega (arith, asks, within, below)

last_kept : {s t : Store} → Keeps s t → (number count place : ℕ) → IsLastPlace s number count place → IsLastPlace t number count place
last_kept {s} {t} keeps number count place last = record {
  has = keeps.has (at place) last.has;
  truth = λ on. ap (λ (label : LabelTree). truth on label) (keeps.labels (at place) last.has) ∙ (last.truth on ∙ ap (λ n. last_at number n count on) (sym keeps.names));
}

-- What is kept of a letter is right in a store that keeps what it has.
pub letters_kept : {s t : Store} → Keeps s t → (l : LastLetter) → AreLastPlaces s l → AreLastPlaces t l
letters_kept keeps l are = record {
  few = subst (λ n. length l.places ≤ n) (sym keeps.names) are.few;
  last = λ k place is. last_kept keeps l.number (k + 1) place (are.last k place is);
}

-- Another number, with the same bits from one on.
pub letters_turned : (s : Store) (a b h : ℕ) (places : List ℕ) → h ≤ s.names → (h < s.names → a / 2 ^ h ≡ b / 2 ^ h) → AreLastPlaces s (record { number = a; places = places })
    → AreLastPlaces s (record { number = b; places = take (s.names - h) places })
letters_turned s a b h places within same are = record {
  few = let size = length-take (s.names - h) places in omega (arith, size);
  last = λ k place is.
      let size = length-take (s.names - h) places in
      let short = slice_get_within (take (s.names - h) places) k place is in
      let old = are.last k place (there k place is short) in
      let bits = same (omega (arith, size, short)) in
      record {
        has = old.has;
        truth = λ on. old.truth on ∙ last_same a b s.names h (k + 1) on (omega (arith, size, short)) bits;
      };
}
  where
    there : (k place : ℕ) → slice_get (take (s.names - h) places) k ≡ Some place → k < length (take (s.names - h) places) → slice_get places k ≡ Some place
    there k place is short =
        ap (λ (ps : List ℕ). slice_get ps k) (sym (take-append-drop (s.names - h) places))
        ∙ (slice_get-append_left (take (s.names - h) places) (drop (s.names - h) places) k short ∙ is)

-- before any proposition is asked for
pub last_none : (s : Store) → IsReducedDiagram s.names s.nodes → (number : ℕ) → IsLastPlace s number 0 1
last_none s is number = let always = always_is s is in record { has = always.has; truth = always.truth }

-- the last place
pub last_there : (s : Store) (l : LastLetter) (count place : ℕ) → AreLastPlaces s l → count ≡ length l.places → 0 < count → place ≡ get_or l.places (count - 1) place
    → IsLastPlace s l.number (length l.places) place
last_there s l count place are size some is =
    let up : (count - 1) + 1 ≡ length l.places = omega (arith, size, some) in
    subst (λ n. IsLastPlace s l.number n place) up (are.last (count - 1) place (slice_get-at l.places (count - 1) place (omega (arith, size, some)) is))

-- one proposition more
pub last_more : {s t : Store} → IsReducedDiagram s.names s.nodes → IsReducedDiagram t.names t.nodes → Grows s t → (number count prop place made : ℕ) (bit : Bool) → bit ≡ is_set number prop
    → prop + (count + 1) ≡ s.names → IsLastPlace s number count place → HasPlace t made
    → ((on : ℕ → Bool) → outcome t.nodes on made ≡ (beq (on prop) bit && outcome s.nodes on place)) → IsLastPlace t number (count + 1) made
last_more {s} {t} was is grows number count prop place made bit set next last has says = record {
  has = has;
  truth = λ on.
      truth_is t is (at made) has on ∙ (says on ∙ (ap (λ b. beq (on prop) bit && b) (sym (truth_is s was (at place) last.has on) ∙ last.truth on)
      ∙ (ap (λ b. beq (on prop) b && last_at number s.names count on) set ∙ (here on ∙ ap (λ n. last_at number n (count + 1) on) (sym grows.names)))));
}
  where
    here : (on : ℕ → Bool) → (beq (on prop) (is_set number prop) && last_at number s.names count on) ≡ last_at number s.names (count + 1) on
    here on =
        let place_of : prop ≡ s.names - suc count = omega (arith, next) in
        let up : suc count ≡ count + 1 = omega arith in
        ap (λ i. beq (on i) (is_set number i) && last_at number s.names count on) place_of ∙ ap (λ c. last_at number s.names c on) up

pub letters_pushed : (s : Store) (number place : ℕ) (old new : List ℕ) → AreLastPlaces s (record { number = number; places = old }) → length old + 1 ≤ s.names
    → IsLastPlace s number (length old + 1) place → new ≡ old ++ place ∷ [] → AreLastPlaces s (record { number = number; places = new })
letters_pushed s number place old new are few last pushed = record {
  few = let size = length_pushed in omega (arith, size, few);
  last = λ k p is. elim (slice_get-push_cases old place k p (subst (λ (ps : List ℕ). slice_get ps k ≡ Some p) pushed is)) [
    | inl before ↦ are.last k p before
    | inr here ↦ subst (λ n. IsLastPlace s number (n + 1) p) (sym here.0) (subst (λ q. IsLastPlace s number (length old + 1) q) here.1 last)
  ];
}
  where
    length_pushed : length new ≡ length old + 1
    length_pushed = ap length pushed ∙ length-append old (place ∷ [])
