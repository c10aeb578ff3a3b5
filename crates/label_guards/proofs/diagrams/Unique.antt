-- Where two places have the same truth under each valuation, they are one place.
use Rattle.std.proofs.Common.{◌≡◌, ◌⊎◌, ℕ, zero, suc, ◌+◌, ◌-◌, ◌<◌, ◌≤◌, ◌∙◌, Bool, true, false, if◌then◌else◌, List, length, sym, refl, ap, inl, inr, Some, arith}
use Rattle.aut_base.specs.Valuation.{holds_in, valuation_of}
use Rattle.aut_base.proofs.canonical.ValuationLists.{length-valuation_of, holds_in-valuation_of}
use Rattle.label_guards.specs.declared.nodes.Node.{Node}
use Rattle.label_guards.specs.Nodes.{level, IsReducedDiagram, IsNodeAt}
use Rattle.label_guards.specs.Store.{Store, HasPlace, outcome}
use Rattle.label_guards.proofs.diagrams.Agreement.{outcome_agrees, outcome_fixed, fixed, fixed-here}
use Rattle.label_guards.proofs.diagrams.Outcomes.{outcome-false, outcome-true}
use Rattle.label_guards.proofs.diagrams.Reduced.{node_of, level_most}

abbrev pub Same : Store → ℕ → ℕ → Type 0
Same s p q = (on : ℕ → Bool) → outcome s.nodes on p ≡ outcome s.nodes on q

abbrev UniqueBelow : Store → ℕ → Type 0
UniqueBelow s k = (p q : ℕ) → p + q < k → HasPlace s p → HasPlace s q → Same s p q → p ≡ q

-- the side of a node to which a value of its proposition leads
abbrev side : Bool → Node → ℕ
side value n = if value then n.high else n.low

has_side : (s : Store) (p : ℕ) (n : Node) (value : Bool) → IsNodeAt s p n → HasPlace s p → HasPlace s (side value n)
has_side s p n true at has = let a = at.node.high in omega arith
has_side s p n false at has = let a = at.node.low in omega arith

side_later : (s : Store) (p : ℕ) (n : Node) (value : Bool) → IsNodeAt s p n → n.prop < level s (side value n)
side_later s p n true at = at.node.high_later
side_later s p n false at = at.node.low_later

-- with the proposition set to the value, the place has the truth of that side
to_side : (s : Store) → IsReducedDiagram s.names s.nodes → (p : ℕ) (n : Node) (value : Bool) → HasPlace s p → IsNodeAt s p n → (prop : ℕ) → prop ≡ n.prop → (on : ℕ → Bool)
    → outcome s.nodes (fixed on prop value) p ≡ outcome s.nodes on (side value n)
to_side s is p n value has at prop e on =
    let later = side_later s p n value at in
    at.truth (fixed on prop value) ∙ by_cases value (ap (fixed on prop value) (sym e) ∙ fixed-here on prop value)
    ∙ outcome_fixed s is (side value n) (has_side s p n value at has) on prop value (omega (arith, e, later))
  where
    by_cases : (b : Bool) → fixed on prop value n.prop ≡ b
        → (if fixed on prop value n.prop then outcome s.nodes (fixed on prop value) n.high else outcome s.nodes (fixed on prop value) n.low) ≡ outcome s.nodes (fixed on prop value) (side b n)
    by_cases true h = ap (λ b. if b then outcome s.nodes (fixed on prop value) n.high else outcome s.nodes (fixed on prop value) n.low) h
    by_cases false h = ap (λ b. if b then outcome s.nodes (fixed on prop value) n.high else outcome s.nodes (fixed on prop value) n.low) h

-- a side of a place is the same as a place that doesn't ask for the proposition
side_same : (s : Store) → IsReducedDiagram s.names s.nodes → (p q : ℕ) (n : Node) (value : Bool) → HasPlace s p → HasPlace s q → IsNodeAt s p n → n.prop < level s q → Same s p q
    → Same s (side value n) q
side_same s is p q n value has_p has_q at later same on =
    sym (to_side s is p n value has_p at n.prop refl on) ∙ same (fixed on n.prop value) ∙ outcome_fixed s is q has_q on n.prop value later

turned : (s : Store) (p q : ℕ) → Same s p q → Same s q p
turned s p q same on = sym (same on)

-- two places that ask for different propositions first differ
other_levels : (s : Store) → IsReducedDiagram s.names s.nodes → (k : ℕ) → UniqueBelow s k → (p q : ℕ) → p + q < suc k → 2 ≤ p → HasPlace s p → HasPlace s q → level s p < level s q → Same s p q → ⊥
other_levels s is k below p q sum inner has_p has_q later same =
    let got = node_of s is p inner has_p in
    let n : Node = got.0 in
    let at = got.1 in
    let l = at.level in
    let a = at.node.low in
    let b = at.node.high in
    let low = below n.low q (omega arith) (omega arith) has_q (side_same s is p q n false has_p has_q at (omega arith) same) in
    let high = below n.high q (omega arith) (omega arith) has_q (side_same s is p q n true has_p has_q at (omega arith) same) in
    at.node.differ (low ∙ sym high)

-- two nodes with the same truth have the same sides
same_sides : (s : Store) → IsReducedDiagram s.names s.nodes → (p q : ℕ) (n m : Node) → IsNodeAt s p n → IsNodeAt s q m → HasPlace s p → HasPlace s q → n.prop ≡ m.prop → Same s p q
    → Same s n.low m.low × Same s n.high m.high
same_sides s is p q n m at bt has_p has_q e same = (by_cases false, by_cases true)
  where
    by_cases : (value : Bool) → Same s (side value n) (side value m)
    by_cases value on = sym (to_side s is p n value has_p at n.prop refl on) ∙ same (fixed on n.prop value) ∙ to_side s is q m value has_q bt n.prop e on

same_nodes : (s : Store) → IsReducedDiagram s.names s.nodes → (k : ℕ) → UniqueBelow s k → (p q : ℕ) → p + q < suc k → 2 ≤ p → 2 ≤ q → HasPlace s p → HasPlace s q → level s p ≡ level s q
    → Same s p q → p ≡ q
same_nodes s is k below p q sum inner_p inner_q has_p has_q e same =
    let got = node_of s is p inner_p has_p in
    let hot = node_of s is q inner_q has_q in
    let n : Node = got.0 in
    let m : Node = hot.0 in
    let at = got.1 in
    let bt = hot.1 in
    let x = at.level in
    let y = bt.level in
    let props : n.prop ≡ m.prop = omega arith in
    let sides = same_sides s is p q n m at bt has_p has_q props same in
    let a = at.node.low in
    let b = at.node.high in
    let c = bt.node.low in
    let d = bt.node.high in
    let lows : n.low ≡ m.low = below n.low m.low (omega arith) (omega arith) (omega arith) sides.0 in
    let highs : n.high ≡ m.high = below n.high m.high (omega arith) (omega arith) (omega arith) sides.1 in
    let nodes : n ≡ m = (λ i. record { prop = props i; low = lows i; high = highs i }) in
    let places : p - 2 ≡ q - 2 = is.once (p - 2) (q - 2) m (got.2 ∙ ap Some nodes) hot.2 in
    omega arith

terminal_same : (s : Store) (p q : ℕ) → p < 2 → q < 2 → Same s p q → p ≡ q
terminal_same s zero zero a b same = refl
terminal_same s zero (suc zero) a b same = absurd (true_false (sym (outcome-true s.nodes off) ∙ (sym (same off) ∙ outcome-false s.nodes off)))
  where
    off : ℕ → Bool
    off i = false

    true_false : true ≡ false → ⊥
    true_false h = cc
terminal_same s (suc zero) zero a b same = absurd (true_false (sym (outcome-true s.nodes off) ∙ (same off ∙ outcome-false s.nodes off)))
  where
    off : ℕ → Bool
    off i = false

    true_false : true ≡ false → ⊥
    true_false h = cc
terminal_same s (suc zero) (suc zero) a b same = refl
terminal_same s (suc (suc p)) q a b same = absurd (omega arith)
terminal_same s p (suc (suc q)) a b same = absurd (omega arith)

level_terminal : (s : Store) (p : ℕ) → p < 2 → level s p ≡ s.names
level_terminal s zero h = refl
level_terminal s (suc zero) h = refl
level_terminal s (suc (suc p)) h = absurd (omega arith)

level_inner : (s : Store) → IsReducedDiagram s.names s.nodes → (p : ℕ) → 2 ≤ p → HasPlace s p → level s p < s.names
level_inner s is p inner has = let got = node_of s is p inner has in let a = got.1.level in let b = got.1.node.within in omega arith

below_or : (a b : ℕ) → (a < b) ⊎ (b ≤ a)
below_or zero zero = inr (omega arith)
below_or zero (suc b) = inl (omega arith)
below_or (suc a) zero = inr (omega arith)
below_or (suc a) (suc b) = elim (below_or a b) [ inl h ↦ inl (omega arith) | inr h ↦ inr (omega arith) ]

unique_step : (s : Store) → IsReducedDiagram s.names s.nodes → (k : ℕ) → UniqueBelow s k → UniqueBelow s (suc k)
unique_step s is k below p q sum has_p has_q same =
    elim (below_or (level s p) (level s q)) [
      | inl h ↦ elim (below_or p 2) [
        | inl t ↦ let e = level_terminal s p t in let m = level_most s is q has_q in absurd (omega arith)
        | inr t ↦ absurd (other_levels s is k below p q sum t has_p has_q h same)
      ]
      | inr h ↦ elim (below_or (level s q) (level s p)) [
        | inl g ↦ elim (below_or q 2) [
          | inl t ↦ let e = level_terminal s q t in let m = level_most s is p has_p in absurd (omega arith)
          | inr t ↦ absurd (other_levels s is k below q p (omega arith) t has_q has_p g (turned s p q same))
        ]
        | inr g ↦ elim (below_or p 2) [
          | inl t ↦ elim (below_or q 2) [
            | inl u ↦ terminal_same s p q t u same
            | inr u ↦ let e = level_terminal s p t in let f = level_inner s is q u has_q in absurd (omega arith)
          ]
          | inr t ↦ elim (below_or q 2) [
            | inl u ↦ let e = level_terminal s q u in let f = level_inner s is p t has_p in absurd (omega arith)
            | inr u ↦ same_nodes s is k below p q sum t u has_p has_q (omega arith) same
          ]
        ]
      ]
    ]

unique_below : (s : Store) → IsReducedDiagram s.names s.nodes → (k : ℕ) → UniqueBelow s k
unique_below s is zero = λ p q sum has_p has_q same. absurd (omega arith)
unique_below s is (suc k) = unique_step s is k (unique_below s is k)

pub unique : (s : Store) → IsReducedDiagram s.names s.nodes → (p q : ℕ) → HasPlace s p → HasPlace s q → Same s p q → p ≡ q
unique s is p q has_p has_q same = unique_below s is (suc (p + q)) p q (omega arith) has_p has_q same

-- the same under all valuations of the store's propositions
abbrev pub SameOn : Store → ℕ → ℕ → Type 0
SameOn s p q = (v : List Bool) → length v ≡ s.names → outcome s.nodes (holds_in v) p ≡ outcome s.nodes (holds_in v) q

-- a place has under all that may hold the truth that it has under the valuation of the first propositions
pub outcome_firsts : (s : Store) → IsReducedDiagram s.names s.nodes → (p : ℕ) → HasPlace s p → (on : ℕ → Bool) → outcome s.nodes on p ≡ outcome s.nodes (holds_in (valuation_of s.names on)) p
outcome_firsts s is p has on = outcome_agrees s is p has on (holds_in (valuation_of s.names on)) (λ i x y. sym (holds_in-valuation_of s.names on i y))

pub unique_on : (s : Store) → IsReducedDiagram s.names s.nodes → (p q : ℕ) → HasPlace s p → HasPlace s q → SameOn s p q → p ≡ q
unique_on s is p q has_p has_q same = unique s is p q has_p has_q (λ on.
    outcome_firsts s is p has_p on ∙ (same (valuation_of s.names on) (length-valuation_of s.names on) ∙ sym (outcome_firsts s is q has_q on)))
