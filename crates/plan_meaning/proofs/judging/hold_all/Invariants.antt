use Rattle.std.proofs.Common.{◌≡◌, length, map, take}
use Rattle.aut_core.specs.SymbolicAutomata.{automaton_of}
use Rattle.plan_meaning.specs.Complements.{AreComplementsKept, StayKept}
use Rattle.plan_meaning.specs.Filters.{AllHold}
use Rattle.plan_meaning.specs.declared.judging.filter.TheConstants.{FILTERS}
use Rattle.plan_meaning.specs.inner.Judging.{asked_for}
use Rattle.plan_meaning.proofs.judging.hold_all.Given as goal

-- all filters so far hold, each complement that is kept is that of its operand, and those kept before are unchanged
abbrev pub invariant-filters : goal.invariant-filters
invariant-filters l = AllHold (asked_for (take l.filter-index l.filter-items)) (automaton_of l.a) × AreComplementsKept l.plan (map automaton_of l.operands) l.complements
    × (length l.filter-items ≡ FILTERS)
    × StayKept l.fn.complements l.complements
