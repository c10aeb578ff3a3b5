use Rattle.aut_core.specs.SymbolicAutomata.{automaton_of}
use Rattle.plan_meaning.proofs.filters.Meeting.{examines_both}
use Rattle.plan_meaning.proofs.judging.meeting.meets.Goals as goal

pub returns : goal.returns
returns c =
    let said = c.in_ok-some.ensures in
    examines_both (automaton_of c.args.a.now) (automaton_of c.args.other.now) c.in_ok-some.some c.well_formedness.ensures.settled said.within said.few said.some
