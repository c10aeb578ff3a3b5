use Rattle.std.proofs.Common.{rules}
use Rattle.graph_walk.proofs.SearchLemmas.{size_added}
use Rattle.graph_walk.proofs.search.Search.add.Goals as goal

pub returns-clause-sized : goal.returns-clause-sized
returns-clause-sized c =
    size_added c.args.node c.args.place c.args.self.now _ c.requires.sized c.requires.within (search rules)
