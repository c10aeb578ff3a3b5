use Rattle.std.proofs.Common.{◌≡◌, arith}
use Rattle.unambiguous.proofs.parting.Flagged.{links_meet}
use Rattle.unambiguous.proofs.twins.meet.Goals as goal

pub returns-clause-meet : goal.returns-clause-meet
returns-clause-meet c =
    let same : c.args.link.now.to ≡ c.args.other.now.to = omega arith in
    links_meet c.args.guards.now c.and.new.self c.args.link.now c.args.other.now c.in_ok-both.both c.is_false.result same c.and.ensures.keeps c.in_ok-both.ensures.and
    c.is_false.ensures.valuations
