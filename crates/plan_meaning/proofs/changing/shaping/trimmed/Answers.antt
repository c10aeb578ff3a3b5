use Rattle.aut_core.specs.SymbolicAutomata.{automaton_of}
use Rattle.plan_meaning.proofs.changes.Shapings.{trim_made, trim_within}
use Rattle.plan_meaning.proofs.changing.shaping.trimmed.Goals as goal

pub returns-clause-steps : goal.returns-clause-steps
returns-clause-steps c = trim_made (automaton_of c.args.a.now) (automaton_of c.in_ok-trim.field-0) c.in_ok-trim.ensures.shape c.in_ok-trim.ensures.accepts

pub returns-clause-size : goal.returns-clause-size
returns-clause-size c = trim_within (automaton_of c.args.a.now) (automaton_of c.in_ok-trim.field-0) c.in_ok-trim.ensures.shape c.requires.size
