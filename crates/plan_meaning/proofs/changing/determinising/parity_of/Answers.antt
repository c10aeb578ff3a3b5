use Rattle.aut_core.specs.SymbolicAutomata.{automaton_of}
use Rattle.plan_meaning.proofs.changes.Determinised.{parity_made}
use Rattle.plan_meaning.proofs.changing.determinising.parity_of.Goals as goal

pub returns-clause-steps : goal.returns-clause-steps
returns-clause-steps c =
    let r = c.in_ok-parity in
    parity_made (automaton_of c.args.a.now) (automaton_of r.field-0) r.ensures.within r.ensures.shape r.ensures.parity r.ensures.accepts
