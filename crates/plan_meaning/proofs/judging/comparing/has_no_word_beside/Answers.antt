use Rattle.std.proofs.Common.{Option, subst}
use Rattle.aut_core.specs.SymbolicAutomata.{SymbolicAutomaton, automaton_of}
use Rattle.plan_meaning.proofs.filters.Beside.{compared}
use Rattle.plan_meaning.specs.Complements.{KeepsComplement}
use Rattle.plan_meaning.proofs.judging.comparing.has_no_word_beside.Goals as goal

pub returns-clause-compares : goal.returns-clause-compares
returns-clause-compares c =
    let a = automaton_of c.args.a.now in
    let b = automaton_of c.args.b.now in
    let kept = subst (λ (slot : Option SymbolicAutomaton). KeepsComplement b slot) c.in-Some.is c.in_ok-keep_complement.ensures.kept in
    let said = c.in_ok-some-in-Some.ensures in
    compared a b (automaton_of c.in-Some.co_b) kept c.in_ok-some-in-Some.some said.within said.few said.some
