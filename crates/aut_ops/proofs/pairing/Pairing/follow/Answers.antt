use Rattle.aut_base.proofs.Outcomes.{passed_on}
use Rattle.aut_base.proofs.lists.Members.{read_has}
use Rattle.aut_ops.proofs.pairs.Pairings.{adds_next, beyond_next, can_still, meeting_kept}
use Rattle.aut_base.specs.declared.limit.TheConstants.{MOST_PAIRS}
use Rattle.aut_ops.specs.inner.Pairings.{CanMeet, meeting}
use Rattle.aut_ops.proofs.pairing.Pairing.follow.Goals as goal

pub meet-requires-clause-meet : goal.meet-requires-clause-meet
meet-requires-clause-meet c =
    let can = read_has (CanMeet c.args.self.now c.args.at c.args.sets c.args.link.now) c.args.others.now c.others.other-index c.other-item.result c.requires.meet c.others-test.true c.other-item.is in
    can_still c.args.self.now c.others.self _ c.args.at c.args.sets c.args.link.now c.other-item.result c.others.invariant.adds can

pub returns-in_err-meet-clause-many : goal.returns-in_err-meet-clause-many
returns-in_err-meet-clause-many c is =
    let old = c.args.self.now in
    let can = read_has (CanMeet old c.args.at c.args.sets c.args.link.now) c.args.others.now c.others.other-index c.other-item.result c.requires.meet c.others-test.true c.other-item.is in
    let same = meeting_kept old.store c.others.self.store c.args.sets c.args.link.now c.other-item.result c.others.invariant.adds.keeps can.first can.second in
    beyond_next (meeting old.store c.args.sets c.args.link.now) c.args.others.now c.others.other-index c.other-item.result c.others-test.true c.other-item.is MOST_PAIRS old c.others.self _
    c.others.invariant.adds (c.in_err-meet.ensures.many (passed_on c.from_residual.result _ _ c.from_residual.ensures.1 is)) same

pub others-preserved : goal.others-preserved
others-preserved c =
    let old = c.args.self.now in
    let can = read_has (CanMeet old c.args.at c.args.sets c.args.link.now) c.args.others.now c.others.other-index c.other-item.result c.requires.meet c.others-test.true c.other-item.is in
    let same = meeting_kept old.store c.others.self.store c.args.sets c.args.link.now c.other-item.result c.others.invariant.adds.keeps can.first can.second in
    record {
      adds = adds_next (meeting old.store c.args.sets c.args.link.now) c.args.others.now c.others.other-index c.other-item.result c.others-test.true c.other-item.is old c.others.self
          c.meet.new.self _ c.others.invariant.adds c.in_ok-meet.ensures.adds same;
      few = c.in_ok-meet.ensures.few;
    }
