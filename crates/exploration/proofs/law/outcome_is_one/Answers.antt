use Rattle.exploration.proofs.Finished.{has_one_outcome}
use Rattle.exploration.proofs.law.outcome_is_one.Goals as goal

pub returns : goal.returns
returns g c = has_one_outcome _
