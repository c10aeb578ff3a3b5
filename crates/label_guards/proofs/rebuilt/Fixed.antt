-- A diagram with one proposition set: its nodes for that proposition give way to one of their sides.
use Rattle.std.proofs.Common.{◌≡◌, ℕ, ◌<◌, ◌≤◌, ◌∙◌, Bool, true, false, if◌then◌else◌, nat_eq, sym, refl, ap, arith}
use Rattle.label_guards.specs.declared.guard.Guard.{Guard}
use Rattle.label_guards.specs.Guards.{truth_in, IsGuardOf, with_prop}
use Rattle.label_guards.specs.Nodes.{level, IsReducedDiagram, Grows, IsChoice, AreSides}
use Rattle.label_guards.specs.Store.{Store, Has, HasPlace, outcome}
use Rattle.label_guards.specs.Tables.{IsFixedAt}
use Rattle.label_guards.proofs.diagrams.Agreement.{outcome_fixed, fixed-here}
use Rattle.label_guards.proofs.diagrams.Growth.{has_kept, level_kept, outcome_kept, grows_on}
use Rattle.label_guards.proofs.labelled.LabelTruth.{guard_of, truth_is, at}

pub fixed_kept : {old new : Store} → Grows old new → (prop : ℕ) (value : Bool) (p q : ℕ) → IsFixedAt old prop value p q → IsFixedAt new prop value p q
fixed_kept {old} {new} grows prop value p q is =
    let a = level_kept grows p is.from in
    let b = level_kept grows q is.has in
    let c = is.later in
    record {
      from = has_kept grows p is.from;
      has = has_kept grows q is.has;
      later = omega arith;
      truth = λ on. outcome_kept grows on q is.has ∙ (is.truth on ∙ sym (outcome_kept grows (with_prop on prop value) p is.from));
    }

-- a place that doesn't ask for the proposition
pub fixed_behind : (s : Store) → IsReducedDiagram s.names s.nodes → (prop : ℕ) (value : Bool) (p l : ℕ) → HasPlace s p → l ≡ level s p → prop < l → IsFixedAt s prop value p p
fixed_behind s is prop value p l has e later = record {
  from = has;
  has = has;
  later = omega arith;
  truth = λ on. sym (outcome_fixed s is p has on prop value (omega arith));
}

-- a node that asks for it, and the side to which the value leads
fixed_side : (s : Store) → IsReducedDiagram s.names s.nodes → (prop p l side : ℕ) (value : Bool) → HasPlace s p → l ≡ level s p → l ≡ prop → side ≤ p → l < level s side
    → ((on : ℕ → Bool) → on l ≡ value → outcome s.nodes on p ≡ outcome s.nodes on side) → IsFixedAt s prop value p side
fixed_side s is prop p l side value has e f bound later leads = record {
  from = has;
  has = omega arith;
  later = omega arith;
  truth = λ on.
      let set = with_prop on prop value in
      sym (leads set (ap set f ∙ fixed-here on prop value) ∙ outcome_fixed s is side (omega arith) on prop value (omega arith));
}

pub fixed_high : (s : Store) → IsReducedDiagram s.names s.nodes → (prop p l low high : ℕ) → HasPlace s p → l ≡ level s p → l ≡ prop → AreSides s l p low high → IsFixedAt s prop true p high
fixed_high s is prop p l low high has e f sides = fixed_side s is prop p l high true has e f sides.high_bound sides.high_later
    (λ set here. sides.truth set ∙ ap (λ b. if b then outcome s.nodes set high else outcome s.nodes set low) here)

pub fixed_low : (s : Store) → IsReducedDiagram s.names s.nodes → (prop p l low high : ℕ) → HasPlace s p → l ≡ level s p → l ≡ prop → AreSides s l p low high → IsFixedAt s prop false p low
fixed_low s is prop p l low high has e f sides = fixed_side s is prop p l low false has e f sides.low_bound sides.low_later
    (λ set here. sides.truth set ∙ ap (λ b. if b then outcome s.nodes set high else outcome s.nodes set low) here)

eq_before : (a b : ℕ) → a < b → nat_eq a b ≡ false
eq_before a b h = grind arith

with_prop-before : (on : ℕ → Bool) (prop : ℕ) (value : Bool) (i : ℕ) → i < prop → with_prop on prop value i ≡ on i
with_prop-before on prop value i h = ap (λ b. if b then value else on i) (eq_before i prop h)

pub fixed_later : {s t u : Store} → Grows s t → Grows t u → (prop l side found : ℕ) (value : Bool) → HasPlace s side → l < level s side → IsFixedAt t prop value side found → l < level u found
fixed_later {s} {t} {u} first second prop l side found value has later is =
    let a = level_kept first side has in
    let b = level_kept second found is.has in
    let c = is.later in
    omega arith

-- a node that asks for one before it
pub fixed_step : {s t u v : Store} → Grows s t → Grows t u → Grows u v → (prop p l low high low_found high_found found : ℕ) (value : Bool)
    → HasPlace s p → l ≡ level s p → l ≤ prop → (l ≡ prop → ⊥) → AreSides s l p low high → IsFixedAt t prop value low low_found → IsFixedAt u prop value high high_found
    → IsChoice v l low_found high_found found → IsFixedAt v prop value p found
fixed_step {s} {t} {u} {v} first second third prop p l low high low_found high_found found value has e before differ sides low_is high_is choice =
    let a = level_kept all p has in
    let c = choice.later in
    record {
      from = has_kept all p has;
      has = choice.has;
      later = omega arith;
      truth = λ on. choice.truth on ∙ by_cases on (on l) refl;
    }
  where
    one : Grows s u
    one = grows_on first second

    all : Grows s v
    all = grows_on one third

    earlier : l < prop
    earlier = omega arith

    by_cases : (on : ℕ → Bool) (b : Bool) → on l ≡ b → (if on l then outcome v.nodes on high_found else outcome v.nodes on low_found) ≡ outcome v.nodes (with_prop on prop value) p
    by_cases on true e =
        let set = with_prop on prop value in
        let a = sides.high_bound in
        let here : set l ≡ true = with_prop-before on prop value l earlier ∙ e in
        ap (λ c. if c then outcome v.nodes on high_found else outcome v.nodes on low_found) e
        ∙ (outcome_kept third on high_found high_is.has ∙ (high_is.truth on ∙ (outcome_kept one set high (omega arith)
        ∙ sym (outcome_kept all set p has ∙ (sides.truth set ∙ ap (λ c. if c then outcome s.nodes set high else outcome s.nodes set low) here)))))
    by_cases on false e =
        let set = with_prop on prop value in
        let a = sides.low_bound in
        let here : set l ≡ false = with_prop-before on prop value l earlier ∙ e in
        ap (λ c. if c then outcome v.nodes on high_found else outcome v.nodes on low_found) e
        ∙ (outcome_kept (grows_on second third) on low_found low_is.has ∙ (low_is.truth on ∙ (outcome_kept first set low (omega arith)
        ∙ sym (outcome_kept all set p has ∙ (sides.truth set ∙ ap (λ c. if c then outcome s.nodes set high else outcome s.nodes set low) here)))))

pub fixed_guard : {old new : Store} → IsReducedDiagram old.names old.nodes → IsReducedDiagram new.names new.nodes → Grows old new → (prop : ℕ) (value : Bool) (g : Guard) (found : ℕ) → Has old g
    → IsFixedAt new prop value g.place found → IsGuardOf new (λ on. truth_in old g (with_prop on prop value)) (at found)
fixed_guard {old} {new} was is grows prop value g found has fixed = guard_of new is _ (at found) fixed.has (λ on.
    let set = with_prop on prop value in
    fixed.truth on ∙ (outcome_kept grows set g.place has ∙ sym (truth_is old was g has set)))
