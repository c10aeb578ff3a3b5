use Rattle.std.proofs.Common.{◌≡◌, ◌++◌, map, refl}
use Rattle.std.specs.List.{Contains}
use Rattle.aut_base.proofs.Outcomes.{ok_weaker, some_said}
use Rattle.graph_walk.specs.Path.{IsShortest}
use Rattle.graph_walk.specs.Walk.{Reaches}
use Rattle.lasso_emptiness.specs.inner.Tours.{ExtendsPath, listed_edge}
use Rattle.lasso_emptiness.proofs.trails.Touring.{way_added}
use Rattle.lasso_emptiness.proofs.trails.Trails.{has_nodes}
use Rattle.lasso_emptiness.proofs.tour.add_way.Goals as goal

pub path-requires-clause-nodes : goal.path-requires-clause-nodes
path-requires-clause-nodes c = has_nodes _ _ _ c.args.edges.now refl c.requires.arcs c.requires.ends

pub returns-in-Some : goal.returns-in-Some
returns-in-Some c =
    ok_weaker c.add_places.result (c.add_places.new.path_edges ≡ c.args.path_edges.now ++ map (listed_edge c.args.edges.now) c.as_slice.result.now)
    (ExtendsPath (Contains c.args.edges.now) c.args.from c.args.to c.args.path_edges.now c.add_places.new.path_edges)
    (way_added c.args.edges.now c.args.graph.now.arcs _ c.as_slice.result.now c.args.from c.args.to c.args.path_edges.now c.add_places.new.path_edges c.requires.arcs c.as_slice.ensures
    (some_said (¬ Reaches c.args.graph.now.arcs c.args.from c.args.to) (IsShortest c.args.graph.now.arcs c.args.from c.args.to) c.in_ok-places.field-0 c.in-Some.places c.in-Some.is
    c.in_ok-places.ensures))
    c.add_places.ensures
