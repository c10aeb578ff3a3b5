use Rattle.std.proofs.Common.{◌∙◌, arith, rules, refl}
use Rattle.graph_walk.proofs.SearchLemmas.{start_added}
use Rattle.graph_walk.proofs.search.Search.begun.Goals as goal

pub starts-preserved : goal.starts-preserved
starts-preserved c = record {
  size = c.in_ok-add.ensures.size ∙ c.starts.invariant.size;
  sized = c.in_ok-add.ensures.sized;
  has = start_added c.starts.start-index _ c.args.starts.now c.starts.search c.add.new.self (search rules) (omega arith) refl c.starts.invariant.has c.in_ok-add.ensures.adds;
}
