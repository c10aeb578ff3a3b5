use Rattle.aut_core.specs.SymbolicAutomata.{automaton_of}
use Rattle.plan_meaning.proofs.changes.Stepping.{hidden_made}
use Rattle.plan_meaning.proofs.changing.shaping.hide.Goals as goal

pub returns-clause-steps : goal.returns-clause-steps
returns-clause-steps c =
    let r = c.in_ok-remove_ap in
    hidden_made c.args.hidden.now (automaton_of c.args.a.now) (automaton_of r.field-0) r.ensures.shape r.ensures.accepts
