use Rattle.std.proofs.Common.{arith}
use Rattle.letter_classes.proofs.SetGuards.{row_guard}
use Rattle.letter_classes.proofs.ReadEdges.{all_links}
use Rattle.letter_classes.specs.Taken.{reads_at}
use Rattle.letter_classes.proofs.taken.push_taken.Goals as goal

pub holds_at-requires : goal.holds_at-requires
holds_at-requires g c = row_guard c.args.a.now c.well_formedness.ensures c.args.state c.links.link-index c.links_of-link-items.result.now c.link-item.result _ c.links_of-link-items.ensures
    c.links-test.true c.link-item.is c.guards.ensures

pub returns : goal.returns
returns g c = all_links g.T.Taking.taken (reads_at c.args.a.now c.args.number) c.args.a.now c.args.state c.links.link-index c.links_of-link-items.result.now c.args.found.now c.links.found
    c.links_of-link-items.ensures (omega (arith, c.links-test.false)) c.links.invariant
