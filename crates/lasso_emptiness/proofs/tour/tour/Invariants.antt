-- The path so far begins in the state that the first needed edge leaves, and has the needed edges so far.
use Rattle.std.proofs.Common.{◌<◌, take}
use Rattle.lasso_emptiness.proofs.trails.Touring.{ToursSoFar}
use Rattle.lasso_emptiness.proofs.tour.tour.Given as goal

abbrev pub invariant-needed : goal.invariant-needed
invariant-needed l = record {
  within : l.at < l.states;
  so_far : ToursSoFar l.edges (take l.edge-index l.needed) l.cycle l.first.from l.at;
}
