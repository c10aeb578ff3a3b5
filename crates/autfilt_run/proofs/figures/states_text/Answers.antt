use Rattle.std.proofs.Common.{◌∙◌}
use Rattle.aut_core.specs.SymbolicAutomata.{automaton_of}
use Rattle.autfilt_run.proofs.printing.FigureLines.{shows_reached}
use Rattle.autfilt_run.proofs.figures.states_text.Goals as goal

pub returns-clause-shown : goal.returns-clause-shown
returns-clause-shown c =
    let size = c.in_ok-size.ensures.size in
    shows_reached (λ t. t.states) (automaton_of c.args.a.now) size.trimmed c.from.result c.number_text.result
    size.is_trimmed (c.from.ensures ∙ size.states) c.number_text.ensures
