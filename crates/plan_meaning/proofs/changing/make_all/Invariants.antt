use Rattle.std.proofs.Common.{drop, take}
use Rattle.aut_core.specs.SymbolicAutomata.{automaton_of}
use Rattle.plan_meaning.specs.inner.Stepping.{IsMadeAsPromised, IsOfSizeFor, changes_asked}
use Rattle.plan_meaning.proofs.changing.make_all.Given as goal

-- what was asked for so far is made, and what is asked for still can be
abbrev pub invariant-changes : goal.invariant-changes
invariant-changes l = IsMadeAsPromised (changes_asked (take l.change-index l.changes)) (automaton_of l.initial.made) (automaton_of l.made) × IsOfSizeFor (changes_asked (drop l.change-index l.changes))
    (automaton_of l.made)
