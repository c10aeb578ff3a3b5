use Rattle.plan_meaning.proofs.changes.ChangeLaws as laws
use Rattle.plan_meaning.proofs.change_laws.changes_are_determined.Goals as goal

pub returns : goal.returns
returns c = laws.changes_are_determined
