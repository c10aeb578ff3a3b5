use Rattle.aut_core.specs.SymbolicAutomata.{automaton_of}
use Rattle.plan_meaning.proofs.changes.Combinations.{product_or_made, product_or_sets, product_or_size}
use Rattle.plan_meaning.proofs.changing.combining.product_or_with.Goals as goal

pub product_or-requires-clause-sets : goal.product_or-requires-clause-sets
product_or-requires-clause-sets c = product_or_sets (automaton_of c.args.a.now) (automaton_of c.args.b.now) c.requires.size c.requires.operand

pub returns-clause-steps : goal.returns-clause-steps
returns-clause-steps c = product_or_made (automaton_of c.args.a.now) (automaton_of c.args.b.now) (automaton_of c.in_ok-product_or.field-0) c.in_ok-product_or.ensures.shape
    c.in_ok-product_or.ensures.accepts c.in_ok-product_or.ensures.within c.in_ok-product_or.ensures.few

pub returns-clause-size : goal.returns-clause-size
returns-clause-size c = product_or_size (automaton_of c.args.a.now) (automaton_of c.args.b.now) (automaton_of c.in_ok-product_or.field-0) c.in_ok-product_or.ensures.shape
    c.in_ok-product_or.ensures.few c.requires.size c.requires.operand
