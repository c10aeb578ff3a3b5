use Rattle.graph_walk.proofs.SearchLemmas.{search_begins, search_goes_on}
use Rattle.graph_walk.proofs.search.Search.new.Goals as goal

pub nodes-init : goal.nodes-init
nodes-init c = record {
  size = c.in_ok-search.ensures.size;
  sized = c.in_ok-search.ensures.sized;
  searching = search_begins c.args.graph.now.arcs c.args.starts.now c.in_ok-search.search c.in_ok-search.ensures.starts;
}

pub nodes-preserved : goal.nodes-preserved
nodes-preserved c = record {
  size = c.in_ok-spread.ensures.size;
  sized = c.in_ok-spread.ensures.sized;
  searching = search_goes_on c.args.graph.now.arcs c.args.starts.now c.nodes.done c.spread.new.self c.in_ok-spread.ensures.searching c.in_ok-spread.ensures.longer;
}
