-- A place depends only on the propositions from its level on.
use Rattle.std.proofs.Common.{◌≡◌, ℕ, zero, suc, ◌<◌, ◌≤◌, ◌∙◌, Bool, true, false, if◌then◌else◌, sym, ap, arith, nat_eq}
use Rattle.label_guards.specs.declared.nodes.Node.{Node}
use Rattle.label_guards.specs.Nodes.{level, IsReducedDiagram}
use Rattle.label_guards.specs.Store.{Store, HasPlace, outcome}
use Rattle.label_guards.proofs.diagrams.Outcomes.{outcome-false, outcome-true}
use Rattle.label_guards.proofs.diagrams.Reduced.{node_of}

abbrev pub Agree : (ℕ → Bool) → (ℕ → Bool) → ℕ → ℕ → Type 0
Agree on also from to = (i : ℕ) → from ≤ i → i < to → on i ≡ also i

agree_below : (s : Store) → IsReducedDiagram s.names s.nodes → (k p : ℕ) → p < k → HasPlace s p → (on also : ℕ → Bool) → Agree on also (level s p) s.names
    → outcome s.nodes on p ≡ outcome s.nodes also p
agree_below s is zero p h has on also agree = absurd (omega arith)
agree_below s is (suc k) zero h has on also agree = outcome-false s.nodes on ∙ sym (outcome-false s.nodes also)
agree_below s is (suc k) (suc zero) h has on also agree = outcome-true s.nodes on ∙ sym (outcome-true s.nodes also)
agree_below s is (suc k) (suc (suc i)) h has on also agree =
    let p : ℕ = suc (suc i) in
    let got = node_of s is (suc (suc i)) (omega arith) has in
    let n : Node = got.0 in
    let at = got.1 in
    let a = at.node.low in
    let b = at.node.high in
    let c = at.node.low_later in
    let d = at.node.high_later in
    let e = at.level in
    let f = at.node.within in
    let low : outcome s.nodes on n.low ≡ outcome s.nodes also n.low = agree_below s is k n.low (omega arith) (omega arith) on also (λ j x y. agree j (omega arith) y) in
    let high : outcome s.nodes on n.high ≡ outcome s.nodes also n.high = agree_below s is k n.high (omega arith) (omega arith) on also (λ j x y. agree j (omega arith) y) in
    let here : on n.prop ≡ also n.prop = agree n.prop (omega arith) f in
    at.truth on ∙ ((λ j. if here j then high j else low j) ∙ sym (at.truth also))

pub outcome_agrees : (s : Store) → IsReducedDiagram s.names s.nodes → (p : ℕ) → HasPlace s p → (on also : ℕ → Bool) → Agree on also (level s p) s.names → outcome s.nodes on p ≡ outcome s.nodes also p
outcome_agrees s is p has on also agree = agree_below s is (suc p) p (omega arith) has on also agree

-- the same with one proposition set
abbrev pub fixed : (ℕ → Bool) → ℕ → Bool → ℕ → Bool
fixed on prop value i = if nat_eq i prop then value else on i

eq_self : (a : ℕ) → nat_eq a a ≡ true
eq_self a = grind arith

eq_other : (a b : ℕ) → b < a → nat_eq a b ≡ false
eq_other a b h = grind arith

pub fixed-here : (on : ℕ → Bool) (prop : ℕ) (value : Bool) → fixed on prop value prop ≡ value
fixed-here on prop value = ap (λ b. if b then value else on prop) (eq_self prop)

pub fixed-later : (on : ℕ → Bool) (prop : ℕ) (value : Bool) (i : ℕ) → prop < i → fixed on prop value i ≡ on i
fixed-later on prop value i h = ap (λ b. if b then value else on i) (eq_other i prop h)

pub outcome_fixed : (s : Store) → IsReducedDiagram s.names s.nodes → (p : ℕ) → HasPlace s p → (on : ℕ → Bool) (prop : ℕ) (value : Bool) → prop < level s p
    → outcome s.nodes (fixed on prop value) p ≡ outcome s.nodes on p
outcome_fixed s is p has on prop value h = outcome_agrees s is p has (fixed on prop value) on (λ i x y. fixed-later on prop value i (omega arith))
