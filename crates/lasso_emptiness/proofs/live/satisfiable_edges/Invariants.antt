-- The edges so far are all passable ones of the links so far.
use Rattle.lasso_emptiness.proofs.trails.Passable.{PassableBelow}
use Rattle.lasso_emptiness.proofs.live.satisfiable_edges.Given as goal

abbrev pub invariant-links : goal.invariant-links
invariant-links l = PassableBelow l.a l.place l.edges
