use Rattle.aut_core.proofs.Rows.{index_more}
use Rattle.aut_core.proofs.link.rows_of.Goals as goal

pub states-preserved : goal.states-preserved
states-preserved c = record {
  begins = c.row_end-end.ensures.begins;
  rows = index_more c.args.links.now c.states.state c.row_end-end.result c.states.rows.items c.push-in-states.new.self.items c.states.invariant.rows c.row_end-end.ensures.begins
      c.in_ok-push-2.ensures.items;
}
