-- The edges so far are in order.
use Rattle.std.proofs.Common.{◌≤◌}
use Rattle.std.specs.List.{AllAdjacentBelow}
use Rattle.aut_base.proofs.well_formed.are_in_order.Given as goal

abbrev pub invariant-edges : goal.invariant-edges
invariant-edges l = AllAdjacentBelow (λ x y. x.from ≤ y.from) l.edges l.i
