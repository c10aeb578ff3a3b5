use Rattle.aut_base.proofs.runs.Examples as examples
use Rattle.aut_base.proofs.law.worked_examples.Goals as goal

pub returns : goal.returns
returns c = examples.worked_examples
