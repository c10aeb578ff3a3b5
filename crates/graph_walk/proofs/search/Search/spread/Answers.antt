use Rattle.std.proofs.Common.{◌≡◌, ℕ, arith, rules, subst}
use Rattle.graph_walk.proofs.SearchLemmas.{spread_begins, spread_goes_on}
use Rattle.graph_walk.specs.inner.Search.{Searching}
use Rattle.graph_walk.proofs.search.Search.spread.Goals as goal

pub arcs-init : goal.arcs-init
arcs-init c =
    spread_begins c.args.graph.now.nodes c.args.graph.now.arcs c.args.starts.now c.args.chains.now.last.items c.args.chains.now.before.items c.args.done c.index-end.result.now
    c.index-node.result.now c.args.self.now c.requires.chains c.requires.size c.requires.sized c.requires.searching c.requires.within c.index-node.ensures c.index-end.ensures

pub arcs-preserved : goal.arcs-preserved
arcs-preserved c =
    spread_goes_on c.args.graph.now.nodes c.args.graph.now.arcs c.args.starts.now c.args.chains.now.last.items c.args.chains.now.before.items c.args.done c.arcs.end
    c.index-end-in-arcs.result.now c.index-node.result.now _ _ c.arcs.self c.add.new.self c.requires.chains c.arcs.invariant (omega arith) (search rules) (search rules)
    c.in_ok-add.ensures.adds c.in_ok-add.ensures.size c.in_ok-add.ensures.sized c.index-end-in-arcs.ensures

pub returns-clause-searching : goal.returns-clause-searching
returns-clause-searching c =
    let none_left : c.arcs.end ≡ 0 = omega (arith, c.arcs-test.false) in
    subst (λ (end : ℕ). Searching c.args.graph.now.arcs c.args.starts.now c.args.done end c.arcs.self) none_left c.arcs.invariant.searching
