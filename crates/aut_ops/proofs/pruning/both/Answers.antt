use Rattle.std.proofs.Common.{◌&&◌}
use Rattle.aut_ops.proofs.links.RangeSteps.{mapped_more}
use Rattle.aut_ops.specs.Satisfiable.{is_flagged}
use Rattle.aut_ops.proofs.pruning.both.Goals as goal

pub places-preserved : goal.places-preserved
places-preserved c = mapped_more (λ place. is_flagged c.args.first.now place && is_flagged c.args.second.now place) c.places.flags c.push.new.self c.places.place c.are_both.result
    c.places.invariant c.are_both.ensures c.in_ok-push.ensures.ok
