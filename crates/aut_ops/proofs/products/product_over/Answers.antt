use Rattle.std.proofs.Common.{◌≡◌, ◌∙◌, ap, subst, sym}
use Rattle.aut_core.specs.SymbolicAutomata.{AreSymbolicParts, SymbolicAutomaton, automaton_of}
use Rattle.aut_ops.specs.Paired.{symbolic_of_pairs}
use Rattle.aut_ops.specs.inner.Joins.{JoinAccepts}
use Rattle.aut_ops.proofs.products.product_over.Goals as goal

pub from_parts-requires : goal.from_parts-requires
from_parts-requires c = subst (λ n. AreSymbolicParts (record (symbolic_of_pairs c.in_ok-made.made) { states = n })) (sym c.len-states.ensures.len) c.in_ok-made.ensures.made.parts

pub returns-clause-shape : goal.returns-clause-shape
returns-clause-shape c =
    let is : c.in_ok-from_parts.field-0 ≡ symbolic_of_pairs c.in_ok-made.made = c.in_ok-from_parts.ensures
    ∙ (λ i. record (symbolic_of_pairs c.in_ok-made.made) { states = c.len-states.ensures.len i }) in
    record { pairs = c.in_ok-made.made.pairs.keys; in_order = c.in_ok-made.ensures.pairs; is = ap automaton_of is ∙ c.in_ok-made.ensures.made.shape }

pub returns-clause-accepts : goal.returns-clause-accepts
returns-clause-accepts c =
    let is : c.in_ok-from_parts.field-0 ≡ symbolic_of_pairs c.in_ok-made.made = c.in_ok-from_parts.ensures
    ∙ (λ i. record (symbolic_of_pairs c.in_ok-made.made) { states = c.len-states.ensures.len i }) in
    subst (λ (m : SymbolicAutomaton). JoinAccepts c.args.join (automaton_of m) (automaton_of c.args.a.now) (automaton_of c.args.b.now)) (sym is) c.in_ok-made.ensures.made.accepts
