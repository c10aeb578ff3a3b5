use Rattle.std.proofs.Common.{◌≡◌, ◌∙◌, ◌+◌, ◌<◌, ℕ, MatchOption, Option, Some, ap, arith, inl, length, map, refl, slice_get, subst, sym}
use Rattle.std.proofs.lemmas.List.{length-map}
use Rattle.std.proofs.lemmas.List.Elements.{All-contains}
use Rattle.aut_base.proofs.lists.Members.{placed_there}
use Rattle.exploration.specs.Turns.{Transition}
use Rattle.exploration.proofs.Faults.{err_is, list_met, step_met}
use Rattle.exploration.proofs.Lists.{read_here}
use Rattle.exploration.proofs.Seeing.{new_seen, place_seen, read_longer, room_seen, within_seen}
use Rattle.exploration.proofs.Spreading.{class_is, number_less, spread_fails, spread_full, spread_gives, spread_lacks}
use Rattle.exploration.specs.Explorations.{IsFaultMet, Spreads, rules_of, stage_of}
use Rattle.exploration.specs.TransitionFunctions.{outcome_of}
use Rattle.exploration.specs.declared.fault.Fault.{Fault}
use Rattle.exploration.proofs.exploration.spread.Given.{Over}
use Rattle.exploration.proofs.exploration.spread.Goals.{After-index-as_slice-at}
use Rattle.exploration.proofs.exploration.spread.Goals as goal

abbrev transition_to : ℕ → ℕ → ℕ → Transition
transition_to from class to = record { from = from; class = class; to = to }

-- the state, in the list as it is by now
here : (g : Over) (c : After-index-as_slice-at g) → slice_get (map g.S.TransitionSystem.seen c.classes.found.states.keys) c.args.at ≡ Some (g.S.TransitionSystem.seen c.index-as_slice-at.result)
here g c = read_longer g.S.TransitionSystem.seen c.as_slice.result.now c.args.found.now.states.keys c.classes.found.states.keys c.args.at c.index-as_slice-at.result c.classes.invariant.spread.longer
    c.requires.at c.as_slice.ensures.keys c.index-as_slice-at.is

-- the class is one of the state's
less : (g : Over) (c : After-index-as_slice-at g) → c.classes.number < (g.S.TransitionSystem.moves c.classes.system).count (g.S.TransitionSystem.seen c.index-as_slice-at.result)
less g c = number_less _ _ _ _ _ _ _ _ _ _ _ _ c.classes.number _ _ c.args.classes.now (g.S.TransitionSystem.seen c.index-as_slice-at.result) c.classes.invariant.spread
    (within_seen g.S.TransitionSystem.seen c.args.found.now.states.keys c.args.at c.requires.at) c.requires.classes (here g c) (omega (arith, c.classes-test.true))

of_state : (g : Over) (c : After-index-as_slice-at g)
    → g.S.TransitionSystem.is_class c.classes.system (g.S.TransitionSystem.seen c.index-as_slice-at.result) c.classes.number c.index-classes-number.result
of_state g c =
    let small : c.classes.number < length c.args.classes.now = omega (arith, c.classes-test.true) in
    class_is _ _ _ _ _ _ _ _ _ _ _ _ c.classes.number _ _ c.args.classes.now (g.S.TransitionSystem.seen c.index-as_slice-at.result) c.index-classes-number.result c.classes.invariant.spread
    (within_seen g.S.TransitionSystem.seen c.args.found.now.states.keys c.args.at c.requires.at) c.requires.classes (here g c)
    (read_here c.args.classes.now c.args.classes.now c.classes.number c.index-classes-number.result refl small c.index-classes-number.is)

pub step-requires-clause-fits : goal.step-requires-clause-fits
step-requires-clause-fits g c =
    let seen = g.S.TransitionSystem.seen in
    let x = c.index-as_slice-at.result in
    All-contains (g.S.TransitionSystem.fits c.classes.system) (map seen c.classes.found.states.keys) (seen x) c.classes.invariant.spread.sound.each
    (placed_there (map seen c.classes.found.states.keys) c.args.at (seen x) (here g (goal.at.step-requires-clause-fits g c).After-index-as_slice-at))

pub step-requires-clause-number : goal.step-requires-clause-number
step-requires-clause-number g c = less g (goal.at.step-requires-clause-number g c).After-index-as_slice-at

pub step-requires-clause-class : goal.step-requires-clause-class
step-requires-clause-class g c = of_state g (goal.at.step-requires-clause-class g c).After-index-as_slice-at

pub returns-in_err-to-clause-meets : goal.returns-in_err-to-clause-meets
returns-in_err-to-clause-meets g c =
    let seen = g.S.TransitionSystem.seen in
    let so = c.classes.invariant.spread in
    let at = (goal.at.returns-in_err-to-clause-meets g c).After-index-as_slice-at in
    let x = c.index-as_slice-at.result in
    err_is _ _ _ c.from_residual.ensures.1 (step_met g.row.S-Output.Denot seen (λ (f : Fault). (y : _) (sum : ℕ) → slice_get (map seen c.args.found.now.states.keys) c.args.at ≡ Some y
    → IsFaultMet (rules_of g.S.TransitionSystem.same (g.S.TransitionSystem.moves c.args.system.now) c.args.limits)
    (stage_of (map seen c.args.found.now.states.keys) c.args.found.now.edges.items sum (c.args.at + 1) (Some (y, 0))) f) _ _ c.in_err-to.ensures.step
    (spread_fails _ _ _ _ _ _ _ _ _ _ _ _ _ _ _ c.classes.number _ _ (seen x) so (here g at) (less g at) c.in_err-to.ensures.keeps)
    (λ y sum there. inl refl))

pub classes-preserved-in_default : goal.classes-preserved-in_default
classes-preserved-in_default g c =
    let seen = g.S.TransitionSystem.seen in
    let so = c.classes.invariant.spread in
    let at = (goal.at.classes-preserved-in_default g c).After-index-as_slice-at in
    let x = c.index-as_slice-at.result in
    record {
      frame = c.in_ok-to.ensures.frame ∙ c.classes.invariant.frame;
      spread = spread_lacks _ _ _ _ _ _ _ _ _ _ _ _ _ _ _ c.classes.number _ _ (seen x) so (here g at) (less g at) c.in_ok-to.ensures.keeps
          (c.in_ok-to.ensures.step ∙ ap (outcome_of seen) c.in_default.is);
    }

pub returns-in_err-place-clause-meets : goal.returns-in_err-place-clause-meets
returns-in_err-place-clause-meets g c =
    let seen = g.S.TransitionSystem.seen in
    let so = c.classes.invariant.spread in
    let at = (goal.at.returns-in_err-place-clause-meets g c).After-index-as_slice-at in
    let x = c.index-as_slice-at.result in
    err_is _ _ _ c.from_residual-in_err-place.ensures.1 (list_met (λ (f : Fault). (y : _) (sum : ℕ) → slice_get (map seen c.args.found.now.states.keys) c.args.at ≡ Some y
    → IsFaultMet (rules_of g.S.TransitionSystem.same (g.S.TransitionSystem.moves c.args.system.now) c.args.limits)
    (stage_of (map seen c.args.found.now.states.keys) c.args.found.now.edges.items sum (c.args.at + 1) (Some (y, 0))) f) _ _ c.in_err-place.ensures.fault
    (λ full. spread_full _ _ _ _ _ _ _ _ _ _ _ _ _ _ _ c.classes.number _ _ (seen x) so (here g at) (less g at) c.in_ok-to.ensures.keeps (seen c.in-Some.to)
    (c.in_ok-to.ensures.step ∙ ap (outcome_of seen) c.in-Some.is)
    (sym (room_seen g.S.State.PartialEq.eq g.S.TransitionSystem.same seen g.met.S.TransitionSystem.tells g.met.S.TransitionSystem.same_tells c.args.limits.states c.in-Some.to
    c.classes.found.states.keys) ∙ full))
    (λ y sum there. inl refl))

pub classes-preserved : goal.classes-preserved
classes-preserved g c =
    let seen = g.S.TransitionSystem.seen in
    let so = c.classes.invariant.spread in
    let at = (goal.at.classes-preserved g c).After-index-as_slice-at in
    let x = c.index-as_slice-at.result in
    let eq = g.S.State.PartialEq.eq in
    let same = g.S.TransitionSystem.same in
    let tells = g.met.S.TransitionSystem.tells in
    let same_tells = g.met.S.TransitionSystem.same_tells in
    let to = c.in-Some.to in
    let keys = c.classes.found.states.keys in
    let fit = subst (λ (o : Option _). MatchOption o (Unit {0}) (λ gift. g.S.TransitionSystem.fits c.step.new.self (seen gift.0))) c.in-Some.is c.in_ok-to.ensures.gives in
    let told = subst (λ (o : Option _). MatchOption o (Unit {0}) (λ gift. g.S.TransitionSystem.is_output (g.S.TransitionSystem.frame c.classes.system) (seen x) c.classes.number gift.1)) c.in-Some.is
    c.in_ok-to.ensures.output in
    record {
      frame = c.in_ok-to.ensures.frame ∙ c.classes.invariant.frame;
      spread = spread_gives _ _ _ _ _ _ _ _ _ _ _ _ _ _ _ c.classes.number _ _ (seen x) so (here g at) (less g at) c.in_ok-to.ensures.keeps (seen to) _ _ _
          (c.in_ok-to.ensures.step ∙ ap (outcome_of seen) c.in-Some.is) fit
          (sym (room_seen eq same seen tells same_tells c.args.limits.states to keys) ∙ c.in_ok-place.ensures.room)
          (ap (map seen) c.in_ok-place.ensures.states ∙ new_seen eq same seen tells same_tells to keys)
          (omega (arith, c.in_ok-place.ensures.few, length-map c.list.new.states.keys seen)) c.in_ok-push.ensures.items
          (ap (transition_to c.args.at c.classes.number) (c.in_ok-place.ensures.place ∙ place_seen eq same seen tells same_tells to keys)) (of_state g at)
          (subst (λ (frame : g.S.TransitionSystem.Frame). g.S.TransitionSystem.is_output frame (seen x) c.classes.number c.in-Some.output) c.classes.invariant.frame told);
    }

pub returns-clause-spreads : goal.returns-clause-spreads
returns-clause-spreads g c =
    let all : c.classes.number ≡ length c.args.classes.now = omega (arith, c.classes.auto.number-end, c.classes-test.false) in
    subst (λ (n : ℕ). Spreads (rules_of g.S.TransitionSystem.same (g.S.TransitionSystem.moves c.args.system.now) c.args.limits) c.args.at 0 n
    (map g.S.TransitionSystem.seen c.args.found.now.states.keys)
    c.args.found.now.edges.items (map g.S.TransitionSystem.seen c.classes.found.states.keys) c.classes.found.edges.items) all c.classes.invariant.spread.spreads
