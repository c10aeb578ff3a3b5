use Rattle.plan_meaning.proofs.filters.Verdicts as verdicts
use Rattle.plan_meaning.proofs.laws.verdict_is_one.Goals as goal

pub returns : goal.returns
returns c = record { verdict = verdicts.verdict_is_one; inclusion = verdicts.one_of_inclusion }
