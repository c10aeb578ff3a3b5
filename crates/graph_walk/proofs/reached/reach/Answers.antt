use Rattle.std.proofs.Common.{ℕ, List, subst}
use Rattle.graph_walk.specs.Reach.{AreReachFlags}
use Rattle.graph_walk.proofs.SearchLemmas.{search_ends}
use Rattle.graph_walk.proofs.reached.reach.Goals as goal

pub returns : goal.returns
returns c =
    let ends = search_ends c.args.graph.now.nodes c.args.graph.now.arcs c.as_slice.result.now c.in_ok-search.search c.in_ok-search.ensures in
    rw c.from_vec.ensures (subst (λ (starts : List ℕ). AreReachFlags c.args.graph.now.nodes c.args.graph.now.arcs starts c.in_ok-search.search.seen.items) c.as_slice.ensures ends)
