use Rattle.aut_core.specs.SymbolicAutomata.{automaton_of}
use Rattle.plan_meaning.proofs.changes.Shapings.{copies_made, fin_room}
use Rattle.plan_meaning.proofs.changing.shaping.with_copies.Goals as goal

pub returns-clause-steps : goal.returns-clause-steps
returns-clause-steps c =
    let r = c.in_ok-copies in
    copies_made (automaton_of c.args.a.now) (automaton_of r.field-0) c.requires.fin (λ many. let told = r.ensures.passed many in cc) r.ensures.shape r.ensures.accepts

pub returns-clause-size : goal.returns-clause-size
returns-clause-size c = fin_room (automaton_of c.args.a.now) (automaton_of c.in_ok-copies.field-0) (λ many. let told = c.in_ok-copies.ensures.passed many in cc) c.in_ok-copies.ensures.shape
    c.requires.size
