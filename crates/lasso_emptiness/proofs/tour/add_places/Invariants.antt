use Rattle.std.proofs.Common.{◌≡◌, ◌++◌, map, take}
use Rattle.lasso_emptiness.specs.inner.Tours.{listed_edge}
use Rattle.lasso_emptiness.proofs.tour.add_places.Given as goal

abbrev pub invariant-places : goal.invariant-places
invariant-places l = l.path_edges ≡ l.fn.path_edges ++ map (listed_edge l.edges) (take l.place-index l.places)
