use Rattle.std.proofs.Common.{◌≡◌, ◌∙◌, ◌-◌, ◌<◌, ◌≤◌, ℕ, MatchOption, None, Option, Some, ap, arith, length, map, slice_get, subst, sym}
use Rattle.exploration.proofs.Exploring.{classes_there, exploring_all, exploring_beyond, exploring_met, exploring_more}
use Rattle.exploration.proofs.Faults.{err_is}
use Rattle.exploration.proofs.Seeing.{past_seen, read_seen, within_seen}
use Rattle.exploration.proofs.Spreading.{sound_kept}
use Rattle.exploration.specs.Explorations.{IsFaultMet, IsSound, Spreads, rules_of, stage_of}
use Rattle.exploration.specs.TransitionFunctions.{AreClassHandles}
use Rattle.exploration.proofs.exploration.fill.Given.{Over}
use Rattle.exploration.proofs.exploration.fill.Goals.{After-index-as_slice-done, In-Some}
use Rattle.exploration.proofs.exploration.fill.Goals as goal

-- the current state
here : (g : Over) (c : After-index-as_slice-done g) → slice_get (map g.S.TransitionSystem.seen c.states.found.states.keys) c.states.done ≡ Some (g.S.TransitionSystem.seen c.index-as_slice-done.result)
here g c = read_seen g.S.TransitionSystem.seen c.as_slice.result.now c.states.found.states.keys c.states.done c.index-as_slice-done.result c.as_slice.ensures.keys
    (omega (arith, c.states-test.true, c.len.ensures.len)) c.index-as_slice-done.is

-- its classes
few : (g : Over) (c : In-Some g) → (g.S.TransitionSystem.moves c.states.system).count (g.S.TransitionSystem.seen c.index-as_slice-done.result) ≤ c.args.limits.classes - c.states.sum
few g c = subst (λ (o : Option _). MatchOption o (Unit {0})
    (λ cs. (g.S.TransitionSystem.moves c.states.system).count (g.S.TransitionSystem.seen c.index-as_slice-done.result) ≤ c.args.limits.classes - c.states.sum))
    c.in-Some.is c.in_ok-classes.ensures.few

are : (g : Over) (c : In-Some g) → AreClassHandles (g.S.TransitionSystem.is_class c.classes.new.self (g.S.TransitionSystem.seen c.index-as_slice-done.result))
    ((g.S.TransitionSystem.moves c.states.system).count (g.S.TransitionSystem.seen c.index-as_slice-done.result)) c.in-Some.classes.items
are g c =
    let x = g.S.TransitionSystem.seen c.index-as_slice-done.result in
    subst (λ (o : Option _). MatchOption o (c.args.limits.classes - c.states.sum < (g.S.TransitionSystem.moves c.states.system).count x)
    (λ cs. AreClassHandles (g.S.TransitionSystem.is_class c.classes.new.self x) ((g.S.TransitionSystem.moves c.states.system).count x) cs.items)) c.in-Some.is c.in_ok-classes.ensures.classes

pub returns-in_default-clause-meets : goal.returns-in_default-clause-meets
returns-in_default-clause-meets g c =
    let seen = g.S.TransitionSystem.seen in
    let x = c.index-as_slice-done.result in
    let at = here g (goal.at.returns-in_default-clause-meets g c).After-index-as_slice-done in
    let many = subst (λ (o : Option _). MatchOption o (c.args.limits.classes - c.states.sum < (g.S.TransitionSystem.moves c.states.system).count (seen x))
    (λ cs. AreClassHandles (g.S.TransitionSystem.is_class c.classes.new.self (seen x)) ((g.S.TransitionSystem.moves c.states.system).count (seen x)) cs.items)) c.in_default.is
    c.in_ok-classes.ensures.classes in
    exploring_beyond _ _ _ _ _ _ _ _ _ _ c.states.done c.states.sum _ _ c.states.invariant.exploring (seen x) at many

pub spread-requires-clause-classes : goal.spread-requires-clause-classes
spread-requires-clause-classes g c =
    let seen = g.S.TransitionSystem.seen in
    let x = c.index-as_slice-done.result in
    let at = here g (goal.at.spread-requires-clause-classes g c).After-index-as_slice-done in
    let classes = are g (goal.at.spread-requires-clause-classes g c).In-Some in
    classes_there (g.S.TransitionSystem.moves c.states.system) (g.S.TransitionSystem.moves c.classes.new.self) _ (map seen c.states.found.states.keys) c.states.done (seen x) c.in-Some.classes.items
    c.as_slice-in-states.result.now c.in_ok-classes.ensures.keeps.moves at c.as_slice-in-states.ensures.value classes

pub spread-requires-clause-sound : goal.spread-requires-clause-sound
spread-requires-clause-sound g c =
    let states = map g.S.TransitionSystem.seen c.states.found.states.keys in
    subst (λ (frame : g.S.TransitionSystem.Frame). IsSound (g.S.TransitionSystem.fits c.classes.new.self) (g.S.TransitionSystem.is_class c.classes.new.self)
    (g.S.TransitionSystem.is_output frame) c.args.limits.states states
    c.states.found.edges.items) (sym (c.in_ok-classes.ensures.frame ∙ c.states.invariant.frame))
    (sound_kept _ (g.S.TransitionSystem.moves c.states.system) (g.S.TransitionSystem.moves c.classes.new.self) _ _ _ _ c.in_ok-classes.ensures.keeps c.args.limits.states states
    c.states.found.edges.items
    c.states.invariant.exploring.sound)

pub returns-in_err-spread-clause-meets : goal.returns-in_err-spread-clause-meets
returns-in_err-spread-clause-meets g c =
    let seen = g.S.TransitionSystem.seen in
    let x = c.index-as_slice-done.result in
    let at = here g (goal.at.returns-in_err-spread-clause-meets g c).After-index-as_slice-done in
    let small = few g (goal.at.returns-in_err-spread-clause-meets g c).In-Some in
    err_is (IsFaultMet (rules_of g.S.TransitionSystem.same (g.S.TransitionSystem.moves c.args.system.now) c.args.limits)
    (stage_of (map seen c.args.found.now.states.keys) c.args.found.now.edges.items 0 0 None))
    c.from_residual-in_err-spread.result _
    c.from_residual-in_err-spread.ensures.1
    (exploring_met _ _ _ _ _ _ _ _ _ _ c.states.done c.states.sum _ _ c.states.invariant.exploring (seen x) at (g.S.TransitionSystem.moves c.classes.new.self) _ _ c.in_ok-classes.ensures.keeps small _
    c.in_err-spread.ensures.meets)

pub states-preserved : goal.states-preserved
states-preserved g c =
    let seen = g.S.TransitionSystem.seen in
    let x = c.index-as_slice-done.result in
    let within : c.states.done < length c.states.found.states.keys = omega (arith, c.states-test.true, c.len.ensures.len) in
    let at = here g (goal.at.states-preserved g c).After-index-as_slice-done in
    let small = few g (goal.at.states-preserved g c).In-Some in
    let classes = are g (goal.at.states-preserved g c).In-Some in
    let size : c.len-in-states.result ≡ length c.in-Some.classes.items = c.len-in-states.ensures ∙ (sym c.as_slice-in-states.ensures.len ∙ ap length c.as_slice-in-states.ensures.value) in
    let copy : length c.as_slice-in-states.result.now ≡ c.len-in-states.result = ap length c.as_slice-in-states.ensures.value ∙ sym size in
    let spreads = subst (λ (n : ℕ). Spreads (rules_of g.S.TransitionSystem.same (g.S.TransitionSystem.moves c.classes.new.self) c.args.limits) c.states.done 0 n (map seen c.states.found.states.keys)
    c.states.found.edges.items (map seen c.spread.new.found.states.keys) c.spread.new.found.edges.items) copy c.in_ok-spread.ensures.spreads in
    let sound = subst (λ (frame : g.S.TransitionSystem.Frame). IsSound (g.S.TransitionSystem.fits c.spread.new.system) (g.S.TransitionSystem.is_class c.spread.new.system)
    (g.S.TransitionSystem.is_output frame) c.args.limits.states
    (map seen c.spread.new.found.states.keys) c.spread.new.found.edges.items) (c.in_ok-classes.ensures.frame ∙ c.states.invariant.frame) c.in_ok-spread.ensures.sound in
    record {
      frame = c.in_ok-spread.ensures.frame ∙ (c.in_ok-classes.ensures.frame ∙ c.states.invariant.frame);
      exploring = exploring_more _ _ _ _ _ _ _ _ _ _ c.states.done c.states.sum _ _
          c.states.invariant.exploring (seen x) at (g.S.TransitionSystem.moves c.classes.new.self) _ _ c.in_ok-classes.ensures.keeps small _ _ _ c.len-in-states.result
          (map seen c.spread.new.found.states.keys)
          c.spread.new.found.edges.items c.in_ok-spread.ensures.keeps (size ∙ classes.all) spreads sound (within_seen seen c.states.found.states.keys c.states.done within)
          c.in_ok-spread.ensures.longer;
    }

pub returns-clause-ends : goal.returns-clause-ends
returns-clause-ends g c =
    let all = past_seen g.S.TransitionSystem.seen c.states.found.states.keys c.states.done (omega (arith, c.states-test.false, c.len.ensures.len)) in
    exploring_all _ _ _ _ _ _ _ _ _ _ c.states.done c.states.sum _ _ c.states.invariant.exploring all
