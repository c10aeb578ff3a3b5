use Rattle.acc_forms.proofs.Tallies.{times_tally}
use Rattle.acc_forms.proofs.tally.Tally.times.Goals as goal

pub returns : goal.returns
returns c = λ xs ys own others. times_tally c.args.self c.args.other xs ys _ _ _ _ own others c.saturating_mul.ensures c.saturating_mul-first.ensures c.saturating_mul-second.ensures
    c.saturating_add.ensures
