use Rattle.std.proofs.Common.{◌≡◌, ◌∙◌, ◌<◌, ℕ, All, Err, List, ap, length, subst, sym}
use Rattle.aut_base.specs.declared.limit.TheConstants.{MOST_NODES}
use Rattle.aut_core.specs.SymbolicAutomata.{automaton_of}
use Rattle.letter_classes.proofs.ClassGuards.{met_number}
use Rattle.parity_det.proofs.TreeSteps.{class_taken, step_fails, step_gives, step_refused, step_told}
use Rattle.parity_det.specs.Determinisation.{class_moves}
use Rattle.safra_trees.specs.Events.{IsMoveInRange, event_of}
use Rattle.safra_trees.specs.Step.{grown, pruned}
use Rattle.safra_trees.specs.Trees.{root_states}
use Rattle.safra_trees.specs.View.{packed_tree}
use Rattle.safra_trees.specs.declared.event.Event.{Event}
use Rattle.parity_det.proofs.trees.TreesTransitionSystem.step.Goals.{In_ok-moves}
use Rattle.parity_det.proofs.trees.TreesTransitionSystem.step.Goals as goal

-- the list has the states of the root
set_is : (c : In_ok-moves) → c.as_slice.result.now ≡ root_states (packed_tree c.args.state.now)
set_is c = c.as_slice.ensures ∙ c.in_ok-self.ensures

-- the moves are those of the class
taken : (c : In_ok-moves) → c.in_ok-moves.moves ≡ class_moves (automaton_of c.args.self.now.automaton.now) (packed_tree c.args.state.now) c.requires.class.valuation
taken c = class_taken c.args.self.now.automaton.now c.well_formedness.ensures c.args.self.now.guards (packed_tree c.args.state.now) c.args._number c.args.class c.requires.fits c.requires.class
    c.as_slice.result.now (set_is c) c.in-Some.number
    (met_number c.args.self.now.guards _ c.args.class _ c.in-Some.number c.guards.ensures c.in-Some.is c.meeting.ensures) c.in_ok-moves.moves c.in_ok-moves.ensures.moves

pub moves_at-requires : goal.moves_at-requires
moves_at-requires c = subst (λ (qs : List ℕ). All (λ q. q < c.args.self.now.automaton.now.states) qs) (sym (c.as_slice.ensures ∙ c.in_ok-self.ensures)) c.requires.fits.states

pub step_packed-requires-clause-states : goal.step_packed-requires-clause-states
step_packed-requires-clause-states c = subst (λ n. All (λ q. q < n) (root_states (packed_tree c.args.state.now))) (sym c.states-states.ensures) c.requires.fits.states

pub step_packed-requires-clause-moves : goal.step_packed-requires-clause-moves
step_packed-requires-clause-moves c = subst (λ n. All (IsMoveInRange n) c.in_ok-moves.moves) (sym c.states-states.ensures) c.in_ok-moves.ensures.within

pub returns-in-Ok-clause-step : goal.returns-in-Ok-clause-step
returns-in-Ok-clause-step c =
    let a = c.args.self.now.automaton.now in
    let s = c.args.self.now.guards in
    let t = packed_tree c.args.state.now in
    let moves = taken (goal.at.returns-in-Ok-clause-step c).In_ok-moves in
    step_gives a c.well_formedness.ensures s t c.args._number c.args.class c.requires.fits c.requires.class c.in_ok-moves.moves moves (packed_tree c.in-Ok.made.0)
    (c.in-Ok.ensures.tree ∙ ap (λ n. pruned (grown n c.in_ok-moves.moves t)) c.states-states.ensures) c.in-Ok.ensures.few

pub returns-in-Ok-clause-output : goal.returns-in-Ok-clause-output
returns-in-Ok-clause-output c =
    let a = c.args.self.now.automaton.now in
    let s = c.args.self.now.guards in
    let t = packed_tree c.args.state.now in
    let moves = taken (goal.at.returns-in-Ok-clause-output c).In_ok-moves in
    step_told a c.well_formedness.ensures s t c.args._number c.args.class c.requires.fits c.requires.class c.in_ok-moves.moves moves c.in-Ok.made.1
    (c.in-Ok.ensures.event ∙ ap (λ n. event_of n c.in_ok-moves.moves t) c.states-states.ensures)

pub returns-in-Ok-clause-gives : goal.returns-in-Ok-clause-gives
returns-in-Ok-clause-gives c = record {
  states = subst (λ n. All (λ q. q < n) (root_states (packed_tree c.in-Ok.made.0))) c.states-states.ensures c.in-Ok.ensures.states;
  keeps = c.requires.fits.keeps;
}

pub returns-in-Err-clause-step : goal.returns-in-Err-clause-step
returns-in-Err-clause-step c =
    let a = c.args.self.now.automaton.now in
    let s = c.args.self.now.guards in
    let t = packed_tree c.args.state.now in
    let moves = taken (goal.at.returns-in-Err-clause-step c).In_ok-moves in
    step_refused Event packed_tree _ c.in-Err.fault c.step_fault.result c.step_fault.ensures (λ nodes.
    step_fails a c.well_formedness.ensures s t c.args._number c.args.class c.requires.fits c.requires.class c.in_ok-moves.moves moves
    (subst (λ n. MOST_NODES < length (pruned (grown n c.in_ok-moves.moves t))) c.states-states.ensures (c.in-Err.ensures.nodes (ap Err nodes))))
