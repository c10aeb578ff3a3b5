use Rattle.aut_core.specs.SymbolicAutomata.{automaton_of}
use Rattle.plan_meaning.proofs.changes.Shapings.{dnf_made}
use Rattle.plan_meaning.proofs.changing.shaping.disjunctive.Goals as goal

pub returns-clause-steps : goal.returns-clause-steps
returns-clause-steps c =
    let r = c.in_ok-with_disjuncts in
    dnf_made (automaton_of c.args.a) (automaton_of r.field-0) (λ many. let told = r.ensures.passed many in cc) r.ensures.shape r.ensures.accepts
