use Rattle.std.proofs.Common.{◌≡◌, length}
use Rattle.safra_trees.specs.Flat.{at}
use Rattle.safra_trees.specs.inner.Order.{IsOrder}
use Rattle.safra_trees.proofs.order.claiming_order.Given as goal

abbrev pub invariant-names : goal.invariant-names
invariant-names l = record {
  size : length l.order.items ≡ l.parent-index;
  order : IsOrder l.parent-index (at l.parents) (at l.order.items);
}
