use Rattle.aut_core.specs.SymbolicAutomata.{automaton_of}
use Rattle.plan_meaning.proofs.filters.Squares.{examined}
use Rattle.plan_meaning.proofs.judging.square.is_unambiguous.Goals as goal

pub returns : goal.returns
returns c =
    let r = c.in_ok-is_unambiguous in
    examined r.field-0 (automaton_of c.args.a.now) c.well_formedness.ensures.settled r.ensures.few r.ensures.answer
