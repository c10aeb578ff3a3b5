use Rattle.std.proofs.Common.{◌<◌, List, [], subst, sym}
use Rattle.std.specs.List.{All, Contains}
use Rattle.std.proofs.lemmas.List.Elements.{All-contains, All-get_or}
use Rattle.lasso_emptiness.specs.declared.live.EdgeRef.{EdgeRef}
use Rattle.lasso_emptiness.specs.inner.Tours.{listed_edge}
use Rattle.lasso_emptiness.proofs.trails.Touring.{ToursSoFar, tours_all, tours_more, tours_none, tours_reaches}
use Rattle.lasso_emptiness.proofs.tour.tour.Goals as goal

pub needed-init : goal.needed-init
needed-init c =
    let first = listed_edge c.args.needed.now 0 in
    let inside = All-get_or (Contains c.args.edges.now) c.args.needed.now 0 _ c.requires.some c.requires.inside in
    record {
      within = (All-contains (λ (e : EdgeRef). (e.from < c.args.states) × (e.to < c.args.states)) c.args.edges.now first c.requires.ends inside).0;
      so_far = subst (λ (es : List EdgeRef). ToursSoFar c.args.edges.now [] es first.from first.from) (sym c.new-cycle.ensures) (tours_none c.args.edges.now first c.requires.joined inside);
    }

pub add_way-requires : goal.add_way-requires
add_way-requires c =
    let nodes = sym c.in_ok-graph.ensures.nodes in
    let next = listed_edge c.args.needed.now c.needed.edge-index in
    let inside = All-get_or (Contains c.args.edges.now) c.args.needed.now c.needed.edge-index _ c.needed-test.true c.requires.inside in
    let ends = subst (λ n. All (λ (e : EdgeRef). (e.from < n) × (e.to < n)) c.args.edges.now) nodes c.requires.ends in
    record {
      arcs = c.in_ok-graph.ensures.arcs;
      ends = ends;
      from = subst (λ n. c.needed.at < n) nodes c.needed.invariant.within;
      to = (All-contains (λ (e : EdgeRef). (e.from < c.in_ok-graph.graph.nodes) × (e.to < c.in_ok-graph.graph.nodes)) c.args.edges.now next ends inside).0;
      reaches = tours_reaches c.args.edges.now c.args.needed.now c.requires.joined c.requires.inside c.needed.edge-index c.needed-test.true c.needed.cycle _ c.needed.at c.needed.invariant.so_far;
    }

pub needed-preserved : goal.needed-preserved
needed-preserved c =
    let next = listed_edge c.args.needed.now c.needed.edge-index in
    let inside = All-get_or (Contains c.args.edges.now) c.args.needed.now c.needed.edge-index _ c.needed-test.true c.requires.inside in
    record {
      within = (All-contains (λ (e : EdgeRef). (e.from < c.args.states) × (e.to < c.args.states)) c.args.edges.now next c.requires.ends inside).1;
      so_far = tours_more c.args.edges.now c.args.needed.now c.requires.joined c.requires.inside c.needed.edge-index c.needed-test.true c.needed.cycle c.add_way.new.path_edges c.push.new.self _
          c.needed.at c.needed.invariant.so_far c.in_ok-add_way.ensures c.in_ok-push.ensures.ok;
    }

pub add_way-requires-2 : goal.add_way-requires-2
add_way-requires-2 c =
    let nodes = sym c.in_ok-graph.ensures.nodes in
    let first = listed_edge c.args.needed.now 0 in
    let inside = All-get_or (Contains c.args.edges.now) c.args.needed.now 0 _ c.requires.some c.requires.inside in
    let ends = subst (λ n. All (λ (e : EdgeRef). (e.from < n) × (e.to < n)) c.args.edges.now) nodes c.requires.ends in
    record {
      arcs = c.in_ok-graph.ensures.arcs;
      ends = ends;
      from = subst (λ n. c.needed.at < n) nodes c.needed.invariant.within;
      to = (All-contains (λ (e : EdgeRef). (e.from < c.in_ok-graph.graph.nodes) × (e.to < c.in_ok-graph.graph.nodes)) c.args.edges.now first ends inside).0;
      reaches = c.needed.invariant.so_far.goes_on first inside;
    }

pub returns : goal.returns
returns c =
    tours_all c.args.edges.now c.args.needed.now c.needed.cycle c.add_way-2.new.path_edges c.needed.edge-index _ c.needed.at c.requires.some c.needed-test.false c.needed.invariant.so_far
    c.in_ok-add_way-2.ensures
