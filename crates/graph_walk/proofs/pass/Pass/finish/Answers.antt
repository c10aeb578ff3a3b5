use Rattle.std.proofs.Common.{refl}
use Rattle.graph_walk.proofs.PassLemmas.{all_open_within, finishes_closed, merges}
use Rattle.graph_walk.proofs.pass.Pass.finish.Goals as goal

pub close-requires-clause-marked : goal.close-requires-clause-marked
close-requires-clause-marked c =
    all_open_within c.args.graph.now.arcs c.args.self.now.marks.items c.args.self.now.order.items c.args.self.now.count c.requires.midway.keeps

pub returns-then-top : goal.returns-then-top
returns-then-top c =
    finishes_closed c.args.graph.now.nodes c.args.graph.now.arcs c.args.self.now c.close.new.self _ c.args.top c.pop.result c.requires.midway c.requires.done c.if-top.true c.close.ensures
    refl refl refl c.pop.ensures.items c.pop.ensures.cases

pub returns-in_ok-under : goal.returns-in_ok-under
returns-in_ok-under c =
    merges c.args.graph.now.nodes c.args.graph.now.arcs c.args.self.now _ c.args.top c.in_ok-under.under c.min.result c.requires.midway c.requires.done c.if-top.false refl refl refl
    c.in_ok-under.ensures.items c.min.ensures
