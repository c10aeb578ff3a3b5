-- The least valuation of a node is that of one of its sides.
use Rattle.std.proofs.Common.{◌≡◌, ◌⊎◌, ℕ, zero, suc, ◌+◌, ◌^◌, ◌<◌, ◌≤◌, min, ◌∙◌, Bool, true, false, if◌then◌else◌, List, [], ◌∷◌, length, Option}
use Rattle.std.proofs.Common.{Some, None, IfSome, sym, refl, ap, subst, inl, inr, arith}
use Rattle.std.proofs.Math.Nat.{pow-le-pow_right}
use Rattle.aut_base.specs.declared.limit.TheConstants.{MOST_NAMES}
use Rattle.aut_base.specs.Valuation.{IsLeast, holds_in, letter_of, number_of, truth_on}
use Rattle.aut_base.specs.Word.{NameSet}
use Rattle.label_guards.specs.declared.guard.Guard.{Guard}
use Rattle.label_guards.specs.declared.nodes.Node.{Node}
use Rattle.label_guards.specs.Guards.{IsNeverMet}
use Rattle.label_guards.specs.Leasts.{IsLeastLetter, IsNeverMetAt, IsLeastNumber, IsLeastAt, IsLeastIn, IsMetAt, lesser_of, bits_of}
use Rattle.label_guards.specs.Nodes.{IsReducedDiagram, IsNodeAt}
use Rattle.label_guards.specs.Store.{Store, Has, HasPlace, label_in, outcome}
use Rattle.label_guards.proofs.diagrams.Agreement.{outcome_agrees}
use Rattle.label_guards.proofs.labelled.LabelTruth.{truth_is}
use Rattle.label_guards.proofs.diagrams.Outcomes.{outcome-false, outcome-true}
use Rattle.label_guards.proofs.valuations.Valuations.{put, length-put, put-at, put-other, number-put_true, number-put_false, number_bound, bits_of-number}

-- no proposition holds
none_of : ℕ → List Bool
none_of zero = []
none_of (suc n) = false ∷ none_of n

length-none_of : (n : ℕ) → length (none_of n) ≡ n
unfolding none_of
length-none_of zero = refl
length-none_of (suc n) = ap suc (length-none_of n)

number-none_of : (n : ℕ) → number_of (none_of n) ≡ 0
unfolding none_of
number-none_of zero = refl
number-none_of (suc n) = let a = number-none_of n in omega arith

none_of-at : (n i : ℕ) → holds_in (none_of n) i ≡ false
unfolding none_of
none_of-at zero i = refl
none_of-at (suc n) zero = refl
none_of-at (suc n) (suc i) = none_of-at n i

pub least_false : (s : Store) → IsLeastAt s 0 None
least_false s v size = outcome-false s.nodes (holds_in v)

pub met_true : (s : Store) → IsMetAt s 1 0
met_true s = record {
  valuation = none_of s.names;
  size = length-none_of s.names;
  is_number = number-none_of s.names;
  truth = outcome-true s.nodes (holds_in (none_of s.names));
  bare = λ i h. none_of-at s.names i;
}

pub least_true : (s : Store) → IsLeastAt s 1 (Some 0)
least_true s = record { met = met_true s; least = λ w size h. omega arith }

module _ (s : Store) (is : IsReducedDiagram s.names s.nodes) (p : ℕ) (n : Node) (at : IsNodeAt s p n) (has : HasPlace s p) where
  choose : (on : ℕ → Bool) (b : Bool) → on n.prop ≡ b → outcome s.nodes on p ≡ (if b then outcome s.nodes on n.high else outcome s.nodes on n.low)
  choose on b e = at.truth on ∙ ap (λ c. if c then outcome s.nodes on n.high else outcome s.nodes on n.low) e

  has_high : HasPlace s n.high
  has_high = let a = at.node.high in omega arith

  high_put : (v : List Bool) (b : Bool) → outcome s.nodes (holds_in (put v n.prop b)) n.high ≡ outcome s.nodes (holds_in v) n.high
  high_put v b = let a = at.node.high_later in outcome_agrees s is n.high has_high (holds_in (put v n.prop b)) (holds_in v)
      (λ i x y. put-other v n.prop b i (λ e. let f : i ≡ n.prop = e in absurd (omega arith)))

  within : (v : List Bool) → length v ≡ s.names → n.prop < length v
  within v size = let a = at.node.within in omega arith

  -- a valuation that meets the node meets the side that it leads to
  meets_high : (w : List Bool) → length w ≡ s.names → outcome s.nodes (holds_in w) p ≡ true → holds_in w n.prop ≡ true → outcome s.nodes (holds_in (put w n.prop false)) n.high ≡ true
  meets_high w size h e = high_put w false ∙ (sym (choose (holds_in w) true e) ∙ h)

  meets_low : (w : List Bool) → outcome s.nodes (holds_in w) p ≡ true → holds_in w n.prop ≡ false → outcome s.nodes (holds_in w) n.low ≡ true
  meets_low w h e = sym (choose (holds_in w) false e) ∙ h

  false_true : (b : Bool) → b ≡ false → b ≡ true → ⊥
  false_true b e f = let g : false ≡ true = sym e ∙ f in cc

  either : (b : Bool) → (b ≡ true) ⊎ (b ≡ false)
  either true = inl refl
  either false = inr refl

  not_met : (b : Bool) → (b ≡ true → ⊥) → b ≡ false
  not_met true h = absurd (h refl)
  not_met false h = refl

  high_least : (w : List Bool) (m : ℕ) → IsLeastNumber s n.high m → length w ≡ s.names → outcome s.nodes (holds_in w) p ≡ true → holds_in w n.prop ≡ true → m + 2 ^ n.prop ≤ number_of w
  high_least w m least size h e =
      let a = least.least (put w n.prop false) (length-put w n.prop false ∙ size) (meets_high w size h e) in
      let b = number-put_false w n.prop e in
      omega arith

  -- a valuation that meets a side, with the proposition set
  met_low : (m : ℕ) → IsMetAt s n.low m → IsMetAt s p m
  met_low m low = let a = at.node.low_later in let l = at.level in record {
    valuation = low.valuation;
    size = low.size;
    is_number = low.is_number;
    truth = choose (holds_in low.valuation) false (low.bare n.prop a) ∙ low.truth;
    bare = λ i h. low.bare i (omega arith);
  }

  pub met_high : (m : ℕ) → IsMetAt s n.high m → IsMetAt s p (m + 2 ^ n.prop)
  met_high m high = let a = at.node.high_later in let l = at.level in
      let v : List Bool = put high.valuation n.prop true in
      let b = number-put_true high.valuation n.prop (within high.valuation high.size) (high.bare n.prop a) in
      let c = high.is_number in
      record {
        valuation = v;
        size = length-put high.valuation n.prop true ∙ high.size;
        is_number = omega arith;
        truth = choose (holds_in v) true (put-at high.valuation n.prop true (within high.valuation high.size)) ∙ (high_put high.valuation true ∙ high.truth);
        bare = λ i h. put-other high.valuation n.prop true i (λ e. let f : i ≡ n.prop = e in absurd (omega arith)) ∙ high.bare i (omega arith);
      }

  by_low : (m : ℕ) → IsLeastNumber s n.low m → ((w : List Bool) → length w ≡ s.names → outcome s.nodes (holds_in w) p ≡ true → m ≤ number_of w) → IsLeastNumber s p m
  by_low m low least = record { met = met_low m low.met; least = least }

  by_high : (m : ℕ) → IsLeastNumber s n.high m → ((w : List Bool) → length w ≡ s.names → outcome s.nodes (holds_in w) p ≡ true → m + 2 ^ n.prop ≤ number_of w) → IsLeastNumber s p (m + 2 ^ n.prop)
  by_high m high least = record { met = met_high m high.met; least = least }

  pub least_step : (a b : Option ℕ) → IsLeastAt s n.low a → IsLeastAt s n.high b → IsLeastAt s p (lesser_of (2 ^ n.prop) a b)
  least_step None None low high = λ v size. not_met _ (λ h. elim (either (holds_in v n.prop)) [
    | inl e ↦ false_true _ (high (put v n.prop false) (length-put v n.prop false ∙ size)) (meets_high v size h e)
    | inr e ↦ false_true _ (low v size) (meets_low v h e)
  ])
  least_step None (Some b) low high = by_high b high (λ w size h. elim (either (holds_in w n.prop)) [
    | inl e ↦ high_least w b high size h e
    | inr e ↦ absurd (false_true _ (low w size) (meets_low w h e))
  ])
  least_step (Some a) None low high = by_low a low (λ w size h. elim (either (holds_in w n.prop)) [
    | inl e ↦ absurd (false_true _ (high (put w n.prop false) (length-put w n.prop false ∙ size)) (meets_high w size h e))
    | inr e ↦ low.least w size (meets_low w h e)
  ])
  least_step (Some a) (Some b) low high = elim (order a (b + 2 ^ n.prop)) [
    | inl e ↦ subst (IsLeastNumber s p) (sym e.1) (by_low a low (λ w size h. elim (either (holds_in w n.prop)) [
      | inl f ↦ let g = high_least w b high size h f in let k = e.0 in omega arith
      | inr f ↦ low.least w size (meets_low w h f)
    ]))
    | inr e ↦ subst (IsLeastNumber s p) (sym e.1) (by_high b high (λ w size h. elim (either (holds_in w n.prop)) [
      | inl f ↦ high_least w b high size h f
      | inr f ↦ let g = low.least w size (meets_low w h f) in let k = e.0 in omega arith
    ]))
  ]
    where
      order : (x y : ℕ) → ((x ≤ y) × (min x y ≡ x)) ⊎ ((y ≤ x) × (min x y ≡ y))
      order zero y = inl (omega arith, omega arith)
      order (suc x) zero = inr (omega arith, omega arith)
      order (suc x) (suc y) = elim (order x y) [
        | inl e ↦ let a = e.0 in inl (omega arith, omega arith)
        | inr e ↦ let a = e.0 in inr (omega arith, omega arith)
      ]

number_small : (s : Store) → IsReducedDiagram s.names s.nodes → (v : List Bool) (m : ℕ) → length v ≡ s.names → number_of v ≡ m → m < 2 ^ MOST_NAMES
number_small s is v m size is_number =
    let a = number_bound v in
    let few = is.few in
    let e : length v ≤ MOST_NAMES = omega arith in
    let f : 0 < 2 = omega arith in
    let c : 2 ^ length v ≤ 2 ^ MOST_NAMES = pow-le-pow_right f e in
    omega arith

-- what the number of a valuation that meets a place is below
pub met_small : (s : Store) → IsReducedDiagram s.names s.nodes → (p m : ℕ) → IsMetAt s p m → m < 2 ^ MOST_NAMES
met_small s is p m met = number_small s is met.valuation m met.size met.is_number

-- the number of a least valuation is small
pub least_small : (s : Store) → IsReducedDiagram s.names s.nodes → (p : ℕ) (found : Option ℕ) → IsLeastAt s p found → IfSome found (λ number. number < 2 ^ MOST_NAMES)
least_small s is p None least = tt
least_small s is p (Some m) least = met_small s is p m least.met

-- what is found of a place is found of its guard
pub met_guard : (s : Store) → IsReducedDiagram s.names s.nodes → (g : Guard) → Has s g → (number : ℕ) → IsMetAt s g.place number → truth_on (label_in s g) (bits_of s.names number) ≡ true
met_guard s is g has number met =
    let same : bits_of s.names number ≡ met.valuation = ap (bits_of s.names) (sym met.is_number) ∙ bits_of-number met.valuation s.names met.size in
    ap (truth_on (label_in s g)) same ∙ (truth_is s is g has (holds_in met.valuation) ∙ met.truth)

pub never_met : (s : Store) → IsReducedDiagram s.names s.nodes → (g : Guard) → Has s g → IsNeverMetAt s g.place → IsNeverMet s g
never_met s is g has none v size = truth_is s is g has (holds_in v) ∙ none v size

-- the valuation of the number is the least that meets the label
least_valuation : (s : Store) → IsReducedDiagram s.names s.nodes → (g : Guard) → Has s g → (number : ℕ) → IsLeastNumber s g.place number
    → IsLeast s.names (truth_on (label_in s g)) (bits_of s.names number)
least_valuation s is g has number least =
    let met = least.met in
    let e : met.valuation ≡ bits_of s.names number = sym (bits_of-number met.valuation s.names met.size) ∙ ap (bits_of s.names) met.is_number in
    subst (IsLeast s.names (truth_on (label_in s g))) e (record {
      size = met.size;
      is_true = truth_is s is g has (holds_in met.valuation) ∙ met.truth;
      least = λ w size h. subst (λ m. m ≤ number_of w) (sym met.is_number) (least.least w size (sym (truth_is s is g has (holds_in w)) ∙ h));
    })

pub least_of_label : (s : Store) → IsReducedDiagram s.names s.nodes → (g : Guard) → Has s g → (found : Option ℕ) → IsLeastAt s g.place found → IsLeastIn s g found
least_of_label s is g has None none = never_met s is g has none
least_of_label s is g has (Some number) least = least_valuation s is g has number least

-- so the letter of its number is the least
pub least_letter : (s : Store) (g : Guard) (names : List (List ℕ)) → length names ≡ s.names → (number : ℕ) (letter : NameSet) → IsLeast s.names (truth_on (label_in s g)) (bits_of s.names number)
    → letter ≡ letter_of names (bits_of (length names) number) → IsLeastLetter s names g letter
least_letter s g names count number letter least e = record {
  valuation = bits_of s.names number;
  least = least;
  letter_of = e ∙ ap (λ n. letter_of names (bits_of n number)) count;
}
