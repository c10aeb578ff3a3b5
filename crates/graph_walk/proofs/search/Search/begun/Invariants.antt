use Rattle.std.proofs.Common.{◌≡◌, length}
use Rattle.graph_walk.specs.inner.Search.{HasStarts, IsSized}
use Rattle.graph_walk.proofs.search.Search.begun.Given as goal

abbrev pub invariant-starts : goal.invariant-starts
invariant-starts l = record { size : length l.search.seen.items ≡ l.fn.nodes; sized : IsSized l.search; has : HasStarts l.starts l.start-index l.search }
