use Rattle.std.proofs.Common.{length}
use Rattle.aut_core.specs.SymbolicAutomata.{automaton_of}
use Rattle.autfilt_run.proofs.printing.FigureLines.{shows_reached}
use Rattle.autfilt_run.proofs.figures.edges_text.Goals as goal

pub returns-clause-shown : goal.returns-clause-shown
returns-clause-shown c =
    let size = c.in_ok-size.ensures.size in
    shows_reached (λ t. length t.edges) (automaton_of c.args.a.now) size.trimmed c.in_ok-size.size.edges
    c.number_text.result size.is_trimmed size.edges c.number_text.ensures
