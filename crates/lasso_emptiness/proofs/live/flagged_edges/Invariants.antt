use Rattle.std.proofs.Common.{◌≡◌, [], false, get_or, take, true}
use Rattle.lasso_emptiness.specs.inner.Picked.{Picks}
use Rattle.lasso_emptiness.proofs.live.flagged_edges.Given as goal

abbrev pub invariant-edges : goal.invariant-edges
invariant-edges l = Picks (λ e. get_or l.flags e.from false ≡ true) (take l.edge-index l.edges) [] l.flagged
