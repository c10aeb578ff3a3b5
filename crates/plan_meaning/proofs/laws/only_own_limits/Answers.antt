use Rattle.plan_meaning.proofs.OwnLimits as laws
use Rattle.plan_meaning.proofs.laws.only_own_limits.Goals as goal

pub returns : goal.returns
returns c = laws.only_own_limits
