use Rattle.parity_det.proofs.ParityLaws as laws
use Rattle.parity_det.proofs.law.parity_has_few_sets.Goals as goal

pub returns : goal.returns
returns c = laws.parity_has_few_sets
