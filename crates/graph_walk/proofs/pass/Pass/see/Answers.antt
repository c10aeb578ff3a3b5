use Rattle.std.proofs.Common.{◌≡◌, ◌∙◌, ℕ, ◌+◌, ◌-◌, ◌<◌, length, arith, rules, refl}
use Rattle.graph_walk.specs.inner.Chains.{head}
use Rattle.graph_walk.proofs.PassLemmas.{chain_read, mark_read, place_within, sees_open, sees_fresh}
use Rattle.graph_walk.proofs.pass.Pass.see.Goals as goal

pub returns-in-Open : goal.returns-in-Open
returns-in-Open c =
    let arcs = c.args.graph.now.arcs in
    let place : ℕ = c.args.top.next - 1 in
    let is : c.args.top.next ≡ place + 1 = omega arith in
    let within = place_within c.args.graph.now.nodes arcs c.args.self.now c.args.top place c.requires.midway is in
    let bound : head arcs place < length c.args.self.now.marks.items = search rules in
    let marked = mark_read c.args.self.now.marks.items (head arcs place) c.index-2.result.now bound (rw c.as_slice-arcs.ensures at c.index-2.ensures) in
    let chain = chain_read c.args.graph.now.nodes arcs c.args.chains.now.last.items c.args.chains.now.before.items place c.index.result.now c.requires.chains within c.index.ensures in
    sees_open c.args.graph.now.nodes arcs c.args.self.now c.args.top place c.requires.midway is c.in-Open.at c.min.result c.index.result.now (marked ∙ c.in-Open.is) c.min.ensures chain

pub returns-in_ok-entered-in-Fresh : goal.returns-in_ok-entered-in-Fresh
returns-in_ok-entered-in-Fresh c =
    let arcs = c.args.graph.now.arcs in
    let place : ℕ = c.args.top.next - 1 in
    let is : c.args.top.next ≡ place + 1 = omega arith in
    let within = place_within c.args.graph.now.nodes arcs c.args.self.now c.args.top place c.requires.midway is in
    let below : head arcs place < c.args.graph.now.nodes = search rules in
    let bound : head arcs place < length c.args.self.now.marks.items = search rules in
    let marked = mark_read c.args.self.now.marks.items (head arcs place) c.index-2.result.now bound (rw c.as_slice-arcs.ensures at c.index-2.ensures) in
    let chain = chain_read c.args.graph.now.nodes arcs c.args.chains.now.last.items c.args.chains.now.before.items place c.index.result.now c.requires.chains within c.index.ensures in
    sees_fresh c.args.graph.now.nodes arcs c.args.self.now c.args.top place c.requires.midway is c.args.chains.now.last.items c.args.chains.now.before.items (head arcs place)
    c.index.result.now (record { marks = c.args.self.now.marks; order = c.args.self.now.order; below = c.push.new.self; count = c.args.self.now.count }) c.enter.new.self
    c.in_ok-entered-in-Fresh.entered c.requires.chains refl below (marked ∙ c.in-Fresh.is) chain refl refl refl c.in_ok-push-in-Fresh.ensures.items
    (rw c.as_slice-arcs.ensures at c.in_ok-entered-in-Fresh.ensures)
