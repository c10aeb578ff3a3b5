use Rattle.aut_core.specs.SymbolicAutomata.{automaton_of}
use Rattle.plan_meaning.proofs.filters.Comparing.{examines_inclusion}
use Rattle.plan_meaning.proofs.judging.comparing.is_included.Goals as goal

pub returns-clause-examines : goal.returns-clause-examines
returns-clause-examines c = examines_inclusion (automaton_of c.args.a.now) (automaton_of c.args.other.now) c.has_no_word_beside.result c.well_formedness.ensures.settled
    c.has_no_word_beside.ensures.compares
