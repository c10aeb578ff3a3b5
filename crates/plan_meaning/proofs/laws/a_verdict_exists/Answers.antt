use Rattle.plan_meaning.proofs.filters.Verdicts as verdicts
use Rattle.plan_meaning.proofs.laws.a_verdict_exists.Goals as goal

pub returns : goal.returns
returns c = verdicts.a_verdict_exists
