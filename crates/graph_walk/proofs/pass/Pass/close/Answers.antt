use Rattle.std.proofs.Common.{◌<◌, length, arith, ap}
use Rattle.graph_walk.proofs.PassLemmas.{closes_step}
use Rattle.graph_walk.proofs.pass.Pass.close.Goals as goal

pub index_mut-requires : goal.index_mut-requires
index_mut-requires c =
    let within : c.nodes.at < length c.args.self.now.order.items = omega (arith, c.len-at-end.ensures, c.args.self.now.order.ok.0) in
    let step = closes_step c.args.self.now.order.items c.nodes.self.order.items c.args.place c.nodes.at c.args.self.now.count c.index-node.result.now c.args.self.now.marks.items
    c.nodes.self.marks.items c.requires.marked (ap (λ v. v.items) c.nodes.invariant.order) within c.index-node.ensures (omega arith) c.nodes.invariant.closes in
    omega (arith, step.0, c.nodes.self.marks.ok.0)

pub nodes-preserved : goal.nodes-preserved
nodes-preserved c =
    let within : c.nodes.at < length c.args.self.now.order.items = omega (arith, c.len-at-end.ensures, c.args.self.now.order.ok.0) in
    let step = closes_step c.args.self.now.order.items c.nodes.self.order.items c.args.place c.nodes.at c.args.self.now.count c.index-node.result.now c.args.self.now.marks.items
    c.nodes.self.marks.items c.requires.marked (ap (λ v. v.items) c.nodes.invariant.order) within c.index-node.ensures (omega arith) c.nodes.invariant.closes in
    record {
      closes = rw c.nodes.invariant.count step.1;
      order = c.nodes.invariant.order;
      below = c.nodes.invariant.below;
      count = c.nodes.invariant.count;
    }
