use Rattle.std.proofs.Common.{arith, rules}
use Rattle.aut_base.proofs.order.WellFormed.{in_order, out_of_order}
use Rattle.aut_base.proofs.well_formed.are_in_order.Goals as goal

pub returns-then-edges-i : goal.returns-then-edges-i
returns-then-edges-i c = (
  λ h. absurd cc,
  λ order.
      absurd (out_of_order c.args.edges.now c.edges.i c.index-edges-i.result c.index-edges-i-in-edges.result (omega arith) (omega arith) c.index-edges-i.is c.index-edges-i-in-edges.is
      c.if-edges-i.true order),
)

pub returns : goal.returns
returns c = (λ h. in_order c.args.edges.now c.edges.i (omega arith) c.edges.invariant, λ order. search rules)
