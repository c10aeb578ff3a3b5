use Rattle.std.proofs.Common.{◌∙◌}
use Rattle.label_guards.specs.Leasts.{bits_of}
use Rattle.monitor_form.proofs.EdgeEnds.{goals_are}
use Rattle.monitor_form.proofs.goals.goals.Goals as goal

pub returns : goal.returns
returns c = c.exact.ensures ∙ goals_are c.args.a.now c.well_formedness.ensures (bits_of c.args.a.now.store.names c.args.number) c.args.set.now c.in_ok-ends.ends c.in_order.result
    c.in_order.ensures.rises
    c.in_order.ensures.keeps c.in_order.ensures.adds_none c.in_ok-ends.ensures
