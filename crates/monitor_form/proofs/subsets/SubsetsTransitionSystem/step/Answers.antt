use Rattle.std.proofs.Common.{◌≡◌, ◌∙◌, true, ap, sym}
use Rattle.aut_base.specs.Valuation.{truth_on}
use Rattle.aut_core.specs.SymbolicAutomata.{automaton_of}
use Rattle.label_guards.specs.Leasts.{bits_of}
use Rattle.label_guards.specs.Store.{label_in}
use Rattle.letter_classes.proofs.ClassGuards.{met_number}
use Rattle.monitor_form.proofs.SetSteps.{goals_fit, step_gives, step_lacks}
use Rattle.monitor_form.specs.Subsets.{successor_set}
use Rattle.monitor_form.proofs.subsets.SubsetsTransitionSystem.step.Goals.{In_ok-goals}
use Rattle.monitor_form.proofs.subsets.SubsetsTransitionSystem.step.Goals as goal

-- the letter of this number is one of the class
meets : (c : In_ok-goals) → truth_on (label_in c.args.self.now.guards c.args.class) (bits_of c.args.self.now.guards.names c.in-Some.number) ≡ true
meets c = met_number c.args.self.now.guards _ c.args.class _ c.in-Some.number c.guards.ensures c.in-Some.is c.meeting.ensures

-- the states found are the successors of the set at that letter
are : (c : In_ok-goals) → c.in_ok-goals.goals ≡ successor_set (automaton_of c.args.self.now.automaton.now) c.args.state.now (bits_of c.args.self.now.automaton.now.store.names c.in-Some.number)
are c = c.in_ok-goals.ensures ∙ ap (λ qs. successor_set (automaton_of c.args.self.now.automaton.now) qs (bits_of c.args.self.now.automaton.now.store.names c.in-Some.number)) c.as_slice.ensures

pub returns-then-is_empty-clause-step : goal.returns-then-is_empty-clause-step
returns-then-is_empty-clause-step c =
    let at = (goal.at.returns-then-is_empty-clause-step c).In_ok-goals in
    step_lacks c.args.self.now.automaton.now c.well_formedness.ensures c.args.self.now.guards c.args.state.now c.args._number c.args.class c.requires.fits c.requires.class c.in-Some.number (meets at)
    c.in_ok-goals.goals (are at) (sym c.if-is_empty.ensures)

pub returns-clause-step : goal.returns-clause-step
returns-clause-step c =
    let at = (goal.at.returns-clause-step c).In_ok-goals in
    step_gives c.args.self.now.automaton.now c.well_formedness.ensures c.args.self.now.guards c.args.state.now c.args._number c.args.class c.requires.fits c.requires.class c.in-Some.number (meets at)
    c.in_ok-goals.goals (are at) (sym c.if-is_empty.ensures)

pub returns-clause-gives : goal.returns-clause-gives
returns-clause-gives c =
    let at = (goal.at.returns-clause-gives c).In_ok-goals in
    goals_fit c.args.self.now.automaton.now c.well_formedness.ensures c.args.self.now.guards c.args.state.now c.args._number c.args.class c.requires.fits c.requires.class c.in-Some.number (meets at)
    c.in_ok-goals.goals (are at)
