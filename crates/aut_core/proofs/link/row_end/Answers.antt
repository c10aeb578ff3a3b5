use Rattle.aut_core.proofs.Rows.{row_ends}
use Rattle.aut_core.proofs.link.row_end.Goals as goal

pub returns-else-links-end-clause-begins : goal.returns-else-links-end-clause-begins
returns-else-links-end-clause-begins c = row_ends c.args.links.now c.args.state c.args.start c.links.end c.index-links-end.result c.requires.in_order c.requires.begins c.links.invariant
    c.links-test.true c.if-links-end.false
