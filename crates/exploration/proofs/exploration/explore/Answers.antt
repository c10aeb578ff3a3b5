use Rattle.std.proofs.Common.{◌≡◌, ◌∙◌, List, None, ap, map, refl, subst, sym}
use Rattle.exploration.proofs.Causes.{caused}
use Rattle.exploration.proofs.Faults.{err_is, if_err_map}
use Rattle.exploration.proofs.Finished.{ends_within, explored_ends}
use Rattle.exploration.specs.Explorations.{IsFaultMet, rules_of, stage_of, transition_of}
use Rattle.exploration.specs.Reached.{IsCaused}
use Rattle.exploration.specs.Turns.{EndsWith, ExplorationState, begin, with_new}
use Rattle.exploration.proofs.exploration.explore.Given.{Over}
use Rattle.exploration.proofs.exploration.explore.Goals.{In_ok-list}
use Rattle.exploration.proofs.exploration.explore.Goals as goal

-- the lists with which the exploration begins
begun : (g : Over) (c : In_ok-list g) → stage_of (map g.S.TransitionSystem.seen c.list.new.states.keys) c.new-2.result.items 0 0 None ≡ begin (g.S.TransitionSystem.seen c.args.start)
begun g c =
    let states = c.in_ok-list.ensures.states ∙ ap (λ ts. with_new g.S.State.PartialEq.eq ts c.args.start) c.new.ensures.empty in
    λ i. record { states = map g.S.TransitionSystem.seen (states i); sum = 0; next = 0; current = None; transitions = map transition_of (c.new-2.ensures.items i) }

pub returns-in_err-fill-clause-meets : goal.returns-in_err-fill-clause-meets
returns-in_err-fill-clause-meets g c =
    let rules = rules_of g.S.TransitionSystem.same (g.S.TransitionSystem.moves c.args.system.now) c.args.limits in
    err_is (IsFaultMet rules (begin (g.S.TransitionSystem.seen c.args.start))) c.from_residual-in_err-fill.result c.in_err-fill.field-0.0 c.from_residual-in_err-fill.ensures.1
    (subst (λ (s : ExplorationState g.S.TransitionSystem.Seen). IsFaultMet rules s c.in_err-fill.field-0.0)
    (begun g (goal.at.returns-in_err-fill-clause-meets g c).In_ok-list) c.in_err-fill.ensures.meets)

pub returns-in_err-fill-clause-caused : goal.returns-in_err-fill-clause-caused
returns-in_err-fill-clause-caused g c =
    let rules = rules_of g.S.TransitionSystem.same (g.S.TransitionSystem.moves c.args.system.now) c.args.limits in
    if_err_map (IsFaultMet rules (begin (g.S.TransitionSystem.seen c.args.start))) (IsCaused rules (g.S.TransitionSystem.seen c.args.start)) _ (caused rules
    (λ a b. (g.met.S.TransitionSystem.same_tells a b).0) (λ a. (g.met.S.TransitionSystem.same_tells a a).1 refl) (g.S.TransitionSystem.seen c.args.start)) (returns-in_err-fill-clause-meets g c)

pub returns-clause-ends : goal.returns-clause-ends
returns-clause-ends g c =
    let rules = rules_of g.S.TransitionSystem.same (g.S.TransitionSystem.moves c.args.system.now) c.args.limits in
    let start = g.S.TransitionSystem.seen c.args.start in
    subst (λ (states : List _). EndsWith rules start (map g.S.TransitionSystem.seen states) (map transition_of c.fill.new.found.edges.items)) (sym c.in_ok-in_order.ensures)
    (c.in_ok-fill.ensures.ends start (begun g (goal.at.returns-clause-ends g c).In_ok-list))

pub returns-clause-explored : goal.returns-clause-explored
returns-clause-explored g c =
    explored_ends (rules_of g.S.TransitionSystem.same (g.S.TransitionSystem.moves c.args.system.now) c.args.limits)
    (λ a b. (g.met.S.TransitionSystem.same_tells a b).0) (λ a. (g.met.S.TransitionSystem.same_tells a a).1 refl) (g.S.TransitionSystem.seen c.args.start) _ _ (returns-clause-ends g c)

pub returns-clause-classes : goal.returns-clause-classes
returns-clause-classes g c =
    ends_within (rules_of g.S.TransitionSystem.same (g.S.TransitionSystem.moves c.args.system.now) c.args.limits)
    (λ a b. (g.met.S.TransitionSystem.same_tells a b).0) (λ a. (g.met.S.TransitionSystem.same_tells a a).1 refl) (g.S.TransitionSystem.seen c.args.start) _ _ (returns-clause-ends g c)
