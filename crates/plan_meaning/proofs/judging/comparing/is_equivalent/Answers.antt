use Rattle.std.proofs.Common.{Bool, Ok, subst}
use Rattle.aut_core.specs.SymbolicAutomata.{automaton_of}
use Rattle.plan_meaning.proofs.filters.Comparing.{equivalent_if, not_equivalent}
use Rattle.plan_meaning.specs.inner.Judging.{ComparesInclusion}
use Rattle.plan_meaning.proofs.judging.comparing.is_equivalent.Goals as goal

pub returns-then-not-is_included-clause-examines : goal.returns-then-not-is_included-clause-examines
returns-then-not-is_included-clause-examines c =
    let a = automaton_of c.args.a.now in
    let b = automaton_of c.args.other.now in
    not_equivalent a b c.well_formedness.ensures.settled (subst (λ (x : Bool). ComparesInclusion (Ok x) a b) c.if-not-is_included.true c.in_ok-is_included.ensures.compares)

pub returns-clause-examines : goal.returns-clause-examines
returns-clause-examines c =
    let a = automaton_of c.args.a.now in
    let b = automaton_of c.args.other.now in
    equivalent_if a b c.well_formedness.ensures.settled c.has_no_word_beside-2.result
    (subst (λ (x : Bool). ComparesInclusion (Ok x) a b) c.if-not-is_included.false c.in_ok-is_included.ensures.compares)
    c.has_no_word_beside-2.ensures.compares
