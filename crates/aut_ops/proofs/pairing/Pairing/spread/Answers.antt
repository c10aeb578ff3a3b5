use Rattle.std.proofs.Common.{All}
use Rattle.std.proofs.lemmas.List.Elements.{All-weaker}
use Rattle.aut_base.proofs.Outcomes.{passed_on}
use Rattle.aut_base.proofs.lists.Members.{read_has}
use Rattle.aut_core.specs.declared.link.Link.{Link}
use Rattle.aut_ops.proofs.pairs.Pairings.{adds_next, beyond_next, can_still, spread_kept}
use Rattle.aut_base.specs.declared.limit.TheConstants.{MOST_PAIRS}
use Rattle.aut_ops.specs.inner.Pairings.{CanMeet, followed}
use Rattle.aut_ops.proofs.pairing.Pairing.spread.Goals as goal

pub follow-requires-clause-meet : goal.follow-requires-clause-meet
follow-requires-clause-meet c =
    let can = read_has (λ (l : Link). All (CanMeet c.args.self.now c.args.at c.args.sets l) c.args.others.now) c.args.links.now c.links.link-index c.link-item.result c.requires.meet
    c.links-test.true c.link-item.is in
    All-weaker (CanMeet c.args.self.now c.args.at c.args.sets c.link-item.result) (CanMeet c.links.self c.args.at c.args.sets c.link-item.result)
    (λ o h. can_still c.args.self.now c.links.self _ c.args.at c.args.sets c.link-item.result o c.links.invariant.adds h) c.args.others.now can

pub returns-in_err-follow-clause-many : goal.returns-in_err-follow-clause-many
returns-in_err-follow-clause-many c is =
    let old = c.args.self.now in
    let can = read_has (λ (l : Link). All (CanMeet old c.args.at c.args.sets l) c.args.others.now) c.args.links.now c.links.link-index c.link-item.result c.requires.meet c.links-test.true
    c.link-item.is in
    let same = spread_kept old c.links.self _ c.args.at c.args.sets c.args.others.now c.link-item.result c.links.invariant.adds can in
    beyond_next (followed old.store c.args.sets c.args.others.now) c.args.links.now c.links.link-index c.link-item.result c.links-test.true c.link-item.is MOST_PAIRS old c.links.self _
    c.links.invariant.adds (c.in_err-follow.ensures.many (passed_on c.from_residual.result _ _ c.from_residual.ensures.1 is)) same

pub links-preserved : goal.links-preserved
links-preserved c =
    let old = c.args.self.now in
    let can = read_has (λ (l : Link). All (CanMeet old c.args.at c.args.sets l) c.args.others.now) c.args.links.now c.links.link-index c.link-item.result c.requires.meet c.links-test.true
    c.link-item.is in
    let same = spread_kept old c.links.self _ c.args.at c.args.sets c.args.others.now c.link-item.result c.links.invariant.adds can in
    record {
      adds = adds_next (followed old.store c.args.sets c.args.others.now) c.args.links.now c.links.link-index c.link-item.result c.links-test.true c.link-item.is old c.links.self
          c.follow.new.self _ c.links.invariant.adds c.in_ok-follow.ensures.adds same;
      few = c.in_ok-follow.ensures.few;
    }
