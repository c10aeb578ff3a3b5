use Rattle.plan_meaning.proofs.changes.SomeChanges as laws
use Rattle.plan_meaning.proofs.change_laws.changes_exist.Goals as goal

pub returns : goal.returns
returns c = laws.changes_exist
