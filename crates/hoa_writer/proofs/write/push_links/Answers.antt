use Rattle.std.proofs.Common.{sym}
use Rattle.hoa_writer.proofs.text.Lines.{edges_written, link_has_guard}
use Rattle.hoa_writer.proofs.write.push_links.Goals as goal

pub push_link-requires : goal.push_link-requires
push_link-requires c =
    let mine = link_has_guard c.args.a.now c.args.state c.links.link-index c.links_of-links.result.now c.link-item.result c.well_formedness.ensures.parts.links c.links_of-links.ensures
    c.links-test.true c.link-item.is in
    rw c.guards.ensures mine

pub returns : goal.returns
returns c =
    edges_written c.args.a.now c.args.state c.links.link-index c.links_of-links.result.now c.args.out.now c.links.out (sym c.well_formedness.ensures.parts.store_names) c.links_of-links.ensures
    c.links-test.false c.links.invariant
