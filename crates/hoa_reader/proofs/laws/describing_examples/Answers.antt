use Rattle.hoa_reader.proofs.description.DescribingExamples as examples
use Rattle.hoa_reader.proofs.laws.describing_examples.Goals as goal

pub returns : goal.returns
returns c = examples.describing_examples
