use Rattle.aut_core.specs.SymbolicAutomata.{automaton_of}
use Rattle.plan_meaning.proofs.filters.Meeting.{examines_word}
use Rattle.word_syntax.specs.Writing.{word_pattern}
use Rattle.plan_meaning.proofs.judging.meeting.accepts_word.Goals as goal

pub returns : goal.returns
returns c =
    let said = c.in_ok-word.ensures in
    examines_word (word_pattern c.args.pattern.now) (automaton_of c.in_ok-word.word) (automaton_of c.args.a.now) said.accepts said.shape said.within c.meets.result c.meets.ensures
