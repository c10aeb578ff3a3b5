use Rattle.plan_meaning.proofs.changes.ChangeExamples as examples
use Rattle.plan_meaning.proofs.change_laws.change_examples.Goals as goal

pub returns : goal.returns
returns c = examples.change_examples
