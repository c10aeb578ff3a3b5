use Rattle.std.proofs.Common.{◌<◌, length, rules}
use Rattle.graph_walk.proofs.BackLemmas.{back_ends, back_goes_on, not_marked, not_reached}
use Rattle.graph_walk.proofs.shortest.path.Goals as goal

pub returns-then-not-index : goal.returns-then-not-index
returns-then-not-index c = λ reaches.
    let marked = not_reached c.args.graph.now.nodes c.args.graph.now.arcs c.args.from c.args.to c.in_ok-search.search c.in_ok-search.ensures reaches in
    not_marked c.in_ok-search.search.seen.items c.args.to _ c.index.ensures c.if-not-index.true marked

pub bounds-arcs-place : goal.bounds-arcs-place
bounds-arcs-place c = rw c.as_slice-arcs.ensures
    (back_goes_on c.args.graph.now.nodes c.args.graph.now.arcs c.args.from c.args.to c.back.at c.index-place.result.now c.in_ok-search.search c.back.places.items c.back.invariant
    c.back-test.true c.index-place.ensures).0

pub offset_bounds-arcs-place : goal.offset_bounds-arcs-place
offset_bounds-arcs-place c =
    let within = (back_goes_on c.args.graph.now.nodes c.args.graph.now.arcs c.args.from c.args.to c.back.at c.index-place.result.now c.in_ok-search.search c.back.places.items
    c.back.invariant c.back-test.true c.index-place.ensures).0 in
    let here : c.index-place.result.now < length c.as_slice-arcs.result.now = rw c.as_slice-arcs.ensures within in
    search rules

pub back-preserved : goal.back-preserved
back-preserved c =
    rw (c.in_ok-push.ensures.items, c.as_slice-arcs.ensures)
    (back_goes_on c.args.graph.now.nodes c.args.graph.now.arcs c.args.from c.args.to c.back.at c.index-place.result.now c.in_ok-search.search c.back.places.items c.back.invariant
    c.back-test.true c.index-place.ensures).1

pub returns : goal.returns
returns c =
    let ends = back_ends c.args.graph.now.nodes c.args.graph.now.arcs c.args.from c.args.to c.in_ok-search.search c.back.places.items (rw c.back-test.false at c.back.invariant) in
    rw (c.from_vec.ensures, c.reverse.ensures.items) ends
