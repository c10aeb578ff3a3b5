use Rattle.std.proofs.Common.{arith, length, refl, ◌+◌, ◌∙◌, ◌≡◌}
use Rattle.word_syntax.proofs.matching.PatternEdges.{edge_more, made_edge, one_more_edge}
use Rattle.word_syntax.proofs.automaton.push_edges.Goals as goal

pub labels-preserved : goal.labels-preserved
labels-preserved c =
    let far : length c.args.edges.now + c.labels.label-index + 1 ≡ length c.args.edges.now + (c.labels.label-index + 1) = omega arith in
    record {
      size = one_more_edge c.labels.edges c.push.new.self _ (length c.args.edges.now + c.labels.label-index) c.in_ok-push.ensures.ok c.labels.invariant.size ∙ far;
      same = edge_more c.args.back c.args.total (length c.args.edges.now) c.labels.label-index c.args.edges.now c.labels.edges c.push.new.self c.args.labels.now c.label-item.result _
          c.labels-test.true c.label-item.is refl c.labels.invariant.same
          (made_edge c.args.back c.args.total (length c.args.edges.now + c.labels.label-index) _ _ _ _ _ (omega (arith, c.labels.invariant.size, c.len-from.ensures)) c.in_ok-copy.ensures
          c.next_state.ensures c.new.ensures) c.in_ok-push.ensures.ok;
    }
