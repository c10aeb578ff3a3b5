use Rattle.aut_core.specs.SymbolicAutomata.{automaton_of}
use Rattle.plan_meaning.proofs.changes.Combinations.{sum_made}
use Rattle.plan_meaning.proofs.changing.combining.sum_with.Goals as goal

pub returns-clause-steps : goal.returns-clause-steps
returns-clause-steps c =
    let r = c.in_ok-sum in
    sum_made (automaton_of c.args.a.now) (automaton_of c.args.b.now) (automaton_of r.field-0) r.ensures.shape r.ensures.accepts r.ensures.within
