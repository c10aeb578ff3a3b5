use Rattle.aut_core.specs.SymbolicAutomata.{automaton_of}
use Rattle.plan_meaning.proofs.changes.Shapings.{complete_made}
use Rattle.plan_meaning.proofs.changing.shaping.completed.Goals as goal

pub returns-clause-steps : goal.returns-clause-steps
returns-clause-steps c =
    let r = c.in_ok-complete in
    complete_made (automaton_of c.args.a.now) (automaton_of r.field-0) c.well_formedness.ensures.well_formed r.ensures.shape r.ensures.complete r.ensures.deterministic r.ensures.accepts
