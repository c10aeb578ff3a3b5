use Rattle.std.proofs.Common.{◌∙◌, ◌<◌, length, arith}
use Rattle.graph_walk.proofs.PassLemmas.{enters_first, enters_one, mark_read}
use Rattle.graph_walk.proofs.pass.Pass.visit.Goals as goal

pub walk-init : goal.walk-init
walk-init c =
    let bound : c.args.root < length c.args.self.now.marks.items = omega (arith, c.requires.idle.size) in
    let fresh = mark_read c.args.self.now.marks.items c.args.root c.index.result.now bound c.index.ensures ∙ c.in-Fresh.is in
    let one = enters_one c.args.chains.now.last.items c.args.root c.args.self.now c.enter.new.self c.in_ok-top.top bound fresh c.in_ok-top.ensures in
    record {
      midway = enters_first c.args.graph.now.nodes c.args.graph.now.arcs c.args.chains.now.last.items c.args.chains.now.before.items c.args.root c.args.self.now c.enter.new.self
          c.in_ok-top.top c.requires.chains c.requires.idle c.requires.within fresh c.in_ok-top.ensures;
      freshened = one.0;
      entered = one.1;
    }
