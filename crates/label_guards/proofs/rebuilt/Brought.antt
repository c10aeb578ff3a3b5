-- A diagram of one store, built anew in another.
use Rattle.std.proofs.Common.{◌≡◌, ℕ, zero, suc, ◌<◌, ◌∙◌, Bool, true, false, ◌&&◌, ◌||◌, if◌then◌else◌, sym, refl, arith}
use Rattle.label_guards.specs.declared.guard.Guard.{Guard}
use Rattle.label_guards.specs.declared.guards.Operation.TheVariants.{And, Or}
use Rattle.label_guards.specs.declared.nodes.Node.{Node}
use Rattle.label_guards.specs.Guards.{truth_in, IsGuardOf}
use Rattle.label_guards.specs.Nodes.{IsReducedDiagram, Grows, IsChoice, IsNodeAt}
use Rattle.label_guards.specs.Operations.{IsJoin, IsPlaceOf}
use Rattle.label_guards.specs.Store.{Store, Has, HasPlace, outcome}
use Rattle.label_guards.specs.Tables.{IsBrought}
use Rattle.label_guards.proofs.diagrams.Growth.{has_kept, outcome_kept, grows_on}
use Rattle.label_guards.proofs.labelled.LabelTruth.{guard_of, truth_is, at}
use Rattle.label_guards.proofs.diagrams.Outcomes.{outcome-false, outcome-true}

pub chosen : {s t : Store} → Grows s t → (prop low high place : ℕ) → HasPlace s low → HasPlace s high → IsChoice t prop low high place
    → IsPlaceOf t (λ on. if on prop then outcome s.nodes on high else outcome s.nodes on low) place
chosen grows prop low high place has_low has_high choice = record {
  has = choice.has;
  truth = λ on. choice.truth on ∙ (λ i. if on prop then outcome_kept grows on high has_high i else outcome_kept grows on low has_low i);
}

weigh : (b h l : Bool) → (((if b then true else false) && h) || ((if b then false else true) && l)) ≡ (if b then h else l)
weigh true true l = refl
weigh true false l = refl
weigh false h l = refl

-- by the places where the proposition holds and fails
pub decided : {s t u v w x : Store} → Grows s t → Grows t u → Grows u v → Grows v w → Grows w x → (prop low high holds fails in_high in_low place : ℕ) → HasPlace s low → HasPlace s high
    → IsChoice t prop 0 1 holds → IsChoice u prop 1 0 fails → IsJoin v And holds high in_high → IsJoin w And fails low in_low → IsJoin x Or in_high in_low place
    → IsPlaceOf x (λ on. if on prop then outcome s.nodes on high else outcome s.nodes on low) place
decided {s} {t} {u} {v} {w} {x} one two three four five prop low high holds fails in_high in_low place has_low has_high holds_is fails_is high_is low_is is = record {
  has = is.has;
  truth = λ on.
      let to_v = grows_on two three in
      let to_w = grows_on three four in
      let high_kept = outcome_kept (grows_on one to_v) on high has_high in
      let low_kept = outcome_kept (grows_on one (grows_on two to_w)) on low has_low in
      let a : outcome v.nodes on holds ≡ (if on prop then true else false) = outcome_kept to_v on holds holds_is.has
      ∙ (holds_is.truth on ∙ (λ i. if on prop then outcome-true t.nodes on i else outcome-false t.nodes on i)) in
      let b : outcome w.nodes on fails ≡ (if on prop then false else true) = outcome_kept to_w on fails fails_is.has
      ∙ (fails_is.truth on ∙ (λ i. if on prop then outcome-false u.nodes on i else outcome-true u.nodes on i)) in
      let c : outcome x.nodes on in_high ≡ ((if on prop then true else false) && outcome s.nodes on high) = outcome_kept (grows_on four five) on in_high high_is.has
      ∙ (high_is.truth on ∙ (λ i. a i && high_kept i)) in
      let d : outcome x.nodes on in_low ≡ ((if on prop then false else true) && outcome s.nodes on low) = outcome_kept five on in_low low_is.has ∙ (low_is.truth on ∙ (λ i. b i && low_kept i)) in
      is.truth on ∙ ((λ i. c i || d i) ∙ weigh (on prop) (outcome s.nodes on high) (outcome s.nodes on low));
}

pub brought_kept : (other : Store) {s t : Store} → Grows s t → (to : ℕ → ℕ) (p q : ℕ) → IsBrought other s to p q → IsBrought other t to p q
brought_kept other grows to p q is = record { has = has_kept grows q is.has; truth = λ on. outcome_kept grows on q is.has ∙ is.truth on }

pub brought_end : (other s : Store) (to : ℕ → ℕ) (p : ℕ) → p < 2 → IsBrought other s to p p
brought_end other s to zero h = record { has = omega arith; truth = λ on. outcome-false s.nodes on ∙ sym (outcome-false other.nodes (λ k. on (to k))) }
brought_end other s to (suc zero) h = record { has = omega arith; truth = λ on. outcome-true s.nodes on ∙ sym (outcome-true other.nodes (λ k. on (to k))) }
brought_end other s to (suc (suc p)) h = absurd (omega arith)

pub brought_step : (other : Store) {t u v : Store} → Grows t u → (to : ℕ → ℕ) (p prop low high found : ℕ) (n : Node) → IsNodeAt other p n → to n.prop ≡ prop → IsBrought other t to n.low low
    → IsBrought other u to n.high high
    → IsPlaceOf v (λ on. if on prop then outcome u.nodes on high else outcome u.nodes on low) found → IsBrought other v to p found
brought_step other {t} {u} {v} grows to p prop low high found n at e low_is high_is is = record {
  has = is.has;
  truth = λ on.
      is.truth on ∙ ((λ i. if on (sym e i) then high_is.truth on i else (outcome_kept grows on low low_is.has ∙ low_is.truth on) i) ∙ sym (at.truth (λ k. on (to k))));
}

pub brought_guard : (other : Store) {new : Store} → IsReducedDiagram other.names other.nodes → IsReducedDiagram new.names new.nodes → (to : ℕ → ℕ) (g : Guard) (place : ℕ) → Has other g
    → IsBrought other new to g.place place → IsGuardOf new (λ on. truth_in other g (λ k. on (to k))) (at place)
brought_guard other {new} was is to g place has brought = guard_of new is _ (at place) brought.has (λ on. brought.truth on ∙ sym (truth_is other was g has (λ k. on (to k))))
