use Rattle.aut_core.specs.SymbolicAutomata.{automaton_of}
use Rattle.plan_meaning.proofs.changes.Determinised.{complement_made}
use Rattle.plan_meaning.proofs.changing.determinising.complemented.Goals as goal

pub returns-clause-steps : goal.returns-clause-steps
returns-clause-steps c =
    let r = c.in_ok-complement in
    complement_made (automaton_of c.args.a.now) (automaton_of r.field-0) r.ensures.within r.ensures.shape r.ensures.complements
