use Rattle.aut_core.specs.SymbolicAutomata.{automaton_of}
use Rattle.plan_meaning.proofs.changes.Shapings.{buchi_made}
use Rattle.plan_meaning.proofs.changing.shaping.buchi.Goals as goal

pub returns-clause-steps : goal.returns-clause-steps
returns-clause-steps c =
    let r = c.in_ok-to_buchi in
    buchi_made (automaton_of c.args.a.now) (automaton_of r.field-0) (λ many. let told = r.ensures.passed_terms many in cc) r.ensures.within r.ensures.shape r.ensures.accepts
