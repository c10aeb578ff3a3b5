use Rattle.plan_meaning.proofs.filters.FilterExamples as examples
use Rattle.plan_meaning.proofs.laws.filter_examples.Goals as goal

pub returns : goal.returns
returns c = examples.filter_examples
