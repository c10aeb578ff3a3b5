use Rattle.std.proofs.Common.{◌∙◌}
use Rattle.monitor_form.proofs.EdgeEnds.{starts_are}
use Rattle.monitor_form.proofs.goals.start_set.Goals as goal

pub returns : goal.returns
returns c = starts_are c.args.a.now c.well_formedness.ensures c.in_ok-starts.starts c.in_order.result (c.in_ok-starts.ensures ∙ c.starts.ensures) c.in_order.ensures.rises
    c.in_order.ensures.keeps c.in_order.ensures.adds_none
