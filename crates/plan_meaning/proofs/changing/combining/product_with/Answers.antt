use Rattle.aut_core.specs.SymbolicAutomata.{automaton_of}
use Rattle.plan_meaning.proofs.changes.Combinations.{product_made}
use Rattle.plan_meaning.proofs.changing.combining.product_with.Goals as goal

pub returns-clause-steps : goal.returns-clause-steps
returns-clause-steps c = product_made (automaton_of c.args.a.now) (automaton_of c.args.b.now) (automaton_of c.in_ok-product.field-0) c.in_ok-product.ensures.shape
    c.in_ok-product.ensures.accepts c.in_ok-product.ensures.within c.in_ok-product.ensures.few
