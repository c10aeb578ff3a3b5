use Rattle.std.proofs.Common.{◌≡◌}
use Rattle.graph_walk.specs.inner.Marks.{ClosesFrom}
use Rattle.graph_walk.proofs.pass.Pass.close.Given as goal

abbrev pub invariant-nodes : goal.invariant-nodes
invariant-nodes l = record {
  closes : ClosesFrom l.fn.self.order.items l.fn.place l.at l.fn.self.count l.fn.self.marks.items l.self.marks.items;
  order : l.self.order ≡ l.fn.self.order;
  below : l.self.below ≡ l.fn.self.below;
  count : l.self.count ≡ l.fn.self.count;
}
