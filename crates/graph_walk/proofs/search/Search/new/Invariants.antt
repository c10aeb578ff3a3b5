use Rattle.std.proofs.Common.{◌≡◌, ◌-◌, length}
use Rattle.graph_walk.specs.inner.Search.{IsSized, Searching}
use Rattle.graph_walk.proofs.search.Search.new.Given as goal

abbrev pub invariant-nodes : goal.invariant-nodes
invariant-nodes l = record {
  size : length l.search.seen.items ≡ l.fn.graph.nodes;
  sized : IsSized l.search;
  searching : Searching l.fn.graph.arcs l.fn.starts l.done (length l.fn.graph.arcs) l.search;
}

abbrev pub decreases-nodes : goal.decreases-nodes
decreases-nodes l = l.fn.graph.nodes - l.done
