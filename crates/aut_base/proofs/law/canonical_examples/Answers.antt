use Rattle.aut_base.proofs.canonical.LabelExamples as examples
use Rattle.aut_base.proofs.law.canonical_examples.Goals as goal

pub returns : goal.returns
returns c = examples.canonical_examples
