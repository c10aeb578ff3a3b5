use Rattle.std.proofs.Common.{◌++◌, subst, sym}
use Rattle.std.proofs.lemmas.Option.{MatchOption-at_some}
use Rattle.std.specs.List.{All}
use Rattle.aut_base.proofs.lists.Members.{all_of_second}
use Rattle.aut_core.specs.SymbolicAutomata.{automaton_of}
use Rattle.lasso_emptiness.specs.Emptiness.{IsAcceptedWord}
use Rattle.word_syntax.specs.Printing.{HoldsOnly}
use Rattle.autfilt_run.proofs.printing.FigureLines.{shows_word}
use Rattle.autfilt_run.proofs.figures.accepted_text.Goals as goal

pub print_word-requires-clause-cycle : goal.print_word-requires-clause-cycle
print_word-requires-clause-cycle c =
    let a = automaton_of c.args.a.now in
    let word = c.in-Some.word in
    let accepted = MatchOption-at_some _ (IsAcceptedWord a) word c.in-Some.is c.in_ok-word.ensures in
    all_of_second (HoldsOnly c.names.result.now) word.stem word.cycle
    (subst (λ names. All (HoldsOnly names) (word.stem ++ word.cycle)) (sym c.names.ensures) accepted.own_names)

pub returns-in-Some : goal.returns-in-Some
returns-in-Some c =
    let a = automaton_of c.args.a.now in
    let word = c.in-Some.word in
    let accepted = MatchOption-at_some _ (IsAcceptedWord a) word c.in-Some.is c.in_ok-word.ensures in
    shows_word a word c.names.result.now c.print_word.result accepted c.names.ensures c.print_word.ensures
