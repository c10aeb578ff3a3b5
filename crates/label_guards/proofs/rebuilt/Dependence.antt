-- On which propositions a guard and its sides depend.
use Rattle.std.proofs.Common.{◌≡◌, ◌∙◌, ℕ, ◌<◌, Bool, true, false, List, All, length, if◌then◌else◌, sym, refl, ap, inl, inr, arith, nat_eq}
use Rattle.std.specs.List.{slice_index_or}
use Rattle.std.proofs.lemmas.List.Elements.{All-get_or}
use Rattle.std.proofs.lemmas.Bool.{eqb-true}
use Rattle.label_guards.specs.declared.guard.Guard.{Guard}
use Rattle.label_guards.specs.declared.nodes.Node.{Node}
use Rattle.label_guards.specs.Guards.{GoesBelow, with_prop}
use Rattle.label_guards.specs.Nodes.{IsReducedDiagram, IsNodeAt, level}
use Rattle.label_guards.specs.Store.{Has, HasPlace, Store, outcome}
use Rattle.label_guards.specs.Tables.{IsFreeAt, PlaceGoesBelow}
use Rattle.label_guards.proofs.diagrams.Agreement.{fixed-here, fixed-later, outcome_agrees, outcome_fixed}
use Rattle.label_guards.proofs.labelled.LabelTruth.{truth_is}
use Rattle.label_guards.proofs.diagrams.Unique.{unique}

-- where all are
pub all_go_below : (count : ℕ) (to : List ℕ) (s : Store) (g : Guard) → length to ≡ s.names → All (λ k. k < count) to → GoesBelow count (λ k. slice_index_or to k 0) s g
all_go_below count to s g long all prop within = inl (All-get_or (λ k. k < count) to prop 0 (omega (arith, long, within)) all)

-- the place of a guard
pub guard_goes_below : (count : ℕ) (to : ℕ → ℕ) (s : Store) (g : Guard) → IsReducedDiagram s.names s.nodes → Has s g → GoesBelow count to s g → PlaceGoesBelow count to s g.place
guard_goes_below count to s g is has below prop within = elim (below prop within) [
  | inl h ↦ inl h
  | inr free ↦ inr (λ on. sym (truth_is s is g has (with_prop on prop true)) ∙ (free on ∙ truth_is s is g has (with_prop on prop false)))
]

-- Setting another proposition first changes nothing behind it.
set_before : (s : Store) → IsReducedDiagram s.names s.nodes → (q : ℕ) → HasPlace s q → (prop : ℕ) → prop < level s q → (on : ℕ → Bool) (k : ℕ) (value b : Bool)
    → outcome s.nodes (with_prop (with_prop on prop value) k b) q ≡ outcome s.nodes (with_prop on k b) q
set_before s is q has prop later on k value b = outcome_agrees s is q has (with_prop (with_prop on prop value) k b) (with_prop on k b) (λ i x y.
    ap (λ c. if nat_eq i k then b else c) (fixed-later on prop value i (omega arith)))

-- A side of a node, where the node's proposition is so, is free of what the node is free of.
side_free : (s : Store) → IsReducedDiagram s.names s.nodes → (p : ℕ) (n : Node) (value : Bool) (q : ℕ) → HasPlace s q → n.prop < level s q
    → ((on : ℕ → Bool) → on n.prop ≡ value → outcome s.nodes on p ≡ outcome s.nodes on q) → (k : ℕ) → IsFreeAt s p k → IsFreeAt s q k
side_free s is p n value q has later side k free on = by_cases (nat_eq n.prop k) refl
  where
    base : ℕ → Bool
    base = with_prop on n.prop value

    by_cases : (e : Bool) → nat_eq n.prop k ≡ e → outcome s.nodes (with_prop on k true) q ≡ outcome s.nodes (with_prop on k false) q
    by_cases true e =
        let same = eqb-true n.prop k e in
        outcome_fixed s is q has on k true (omega arith) ∙ sym (outcome_fixed s is q has on k false (omega arith))
    by_cases false e =
        let to_side : (b : Bool) → outcome s.nodes (with_prop base k b) p ≡ outcome s.nodes (with_prop on k b) q = λ b.
        side (with_prop base k b) (ap (λ c. if c then b else base n.prop) e ∙ fixed-here on n.prop value) ∙ set_before s is q has n.prop later on k value b in
        sym (to_side true) ∙ (free base ∙ to_side false)

-- where the proposition of a node fails, and where it holds
at_low : (s : Store) (p : ℕ) (n : Node) → IsNodeAt s p n → (on : ℕ → Bool) → on n.prop ≡ false → outcome s.nodes on p ≡ outcome s.nodes on n.low
at_low s p n at on e = at.truth on ∙ ap (λ c. if c then outcome s.nodes on n.high else outcome s.nodes on n.low) e

at_high : (s : Store) (p : ℕ) (n : Node) → IsNodeAt s p n → (on : ℕ → Bool) → on n.prop ≡ true → outcome s.nodes on p ≡ outcome s.nodes on n.high
at_high s p n at on e = at.truth on ∙ ap (λ c. if c then outcome s.nodes on n.high else outcome s.nodes on n.low) e

pub low_goes_below : (count : ℕ) (to : ℕ → ℕ) (s : Store) (p : ℕ) (n : Node) → IsReducedDiagram s.names s.nodes → HasPlace s p → IsNodeAt s p n → PlaceGoesBelow count to s p
    → PlaceGoesBelow count to s n.low
low_goes_below count to s p n is has at below k within =
    let low = at.node.low in
    elim (below k within) [
      | inl h ↦ inl h
      | inr free ↦ inr (side_free s is p n false n.low (omega arith) at.node.low_later (at_low s p n at) k free)
    ]

pub high_goes_below : (count : ℕ) (to : ℕ → ℕ) (s : Store) (p : ℕ) (n : Node) → IsReducedDiagram s.names s.nodes → HasPlace s p → IsNodeAt s p n → PlaceGoesBelow count to s p
    → PlaceGoesBelow count to s n.high
high_goes_below count to s p n is has at below k within =
    let high = at.node.high in
    elim (below k within) [
      | inl h ↦ inl h
      | inr free ↦ inr (side_free s is p n true n.high (omega arith) at.node.high_later (at_high s p n at) k free)
    ]

-- A node depends on its own proposition: its sides differ.
pub node_goes_below : (count : ℕ) (to : ℕ → ℕ) (s : Store) (p : ℕ) (n : Node) → IsReducedDiagram s.names s.nodes → HasPlace s p → IsNodeAt s p n → PlaceGoesBelow count to s p → to n.prop < count
node_goes_below count to s p n is has at below =
    let low = at.node.low in
    let high = at.node.high in
    elim (below n.prop at.node.within) [
      | inl h ↦ h
      | inr free ↦ absurd (at.node.differ (unique s is n.low n.high (omega arith) (omega arith) (same free (omega arith) (omega arith))))
    ]
  where
    same : IsFreeAt s p n.prop → HasPlace s n.low → HasPlace s n.high → (on : ℕ → Bool) → outcome s.nodes on n.low ≡ outcome s.nodes on n.high
    same free has_low has_high on =
        let off = with_prop on n.prop false in
        let set = with_prop on n.prop true in
        sym (outcome_fixed s is n.low has_low on n.prop false at.node.low_later)
        ∙ (sym (at_low s p n at off (fixed-here on n.prop false)) ∙ (sym (free on)
        ∙ (at_high s p n at set (fixed-here on n.prop true) ∙ outcome_fixed s is n.high has_high on n.prop true at.node.high_later)))
