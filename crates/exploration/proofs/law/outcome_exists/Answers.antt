use Rattle.exploration.proofs.Outcomes.{has_some_outcome}
use Rattle.exploration.proofs.law.outcome_exists.Goals as goal

pub returns : goal.returns
returns g c = has_some_outcome _
