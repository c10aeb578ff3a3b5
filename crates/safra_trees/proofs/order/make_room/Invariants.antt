use Rattle.std.proofs.Common.{◌≡◌, ◌<◌, ◌≤◌, ℕ}
use Rattle.safra_trees.specs.Flat.{at}
use Rattle.safra_trees.specs.inner.Order.{IsShifted}
use Rattle.safra_trees.proofs.order.make_room.Given as goal

abbrev pub invariant-names : goal.invariant-names
invariant-names l = record {
  done : (z : ℕ) → z < l.one-index → IsShifted l.number (at l.fn.order) (at l.order) z;
  rest : (z : ℕ) → l.one-index ≤ z → at l.order z ≡ at l.fn.order z;
}
