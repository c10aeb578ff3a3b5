use Rattle.aut_core.specs.SymbolicAutomata.{automaton_of}
use Rattle.plan_meaning.proofs.filters.Meeting.{examines_empty}
use Rattle.plan_meaning.proofs.judging.meeting.accepts_nothing.Goals as goal

pub returns : goal.returns
returns c = examines_empty (automaton_of c.args.a.now) c.in_ok-some.some c.in_ok-some.ensures
