use Rattle.std.proofs.Common.{IsTrue, ◌↔◌}
use Rattle.std.proofs.lemmas.Result.{IfOk-weaker}
use Rattle.aut_core.specs.SymbolicAutomata.{automaton_of}
use Rattle.inclusion.proofs.Common.{some_of_both}
use Rattle.inclusion.proofs.search.accept_together.Goals as goal

pub returns-clause-some : goal.returns-clause-some
returns-clause-some c =
    let said = c.in_ok-both.ensures in
    some_of_both (automaton_of c.args.a.now) (automaton_of c.args.b.now) (automaton_of c.in_ok-both.both) c.in_ok-some.some said.accepts c.in_ok-some.ensures
