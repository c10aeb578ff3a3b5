use Rattle.aut_core.specs.SymbolicAutomata.{automaton_of}
use Rattle.inclusion.proofs.Common.{of_both}
use Rattle.inclusion.proofs.search.counterexample.Goals as goal

pub returns-clause-word : goal.returns-clause-word
returns-clause-word c =
    let said = c.in_ok-both.ensures in
    of_both (automaton_of c.args.a.now) (automaton_of c.args.co_b.now) (automaton_of c.in_ok-both.both) c.in_ok-found.found said.shape said.accepts c.in_ok-found.ensures
