use Rattle.parity_det.proofs.ParityLaws as laws
use Rattle.parity_det.proofs.law.parity_is_determined.Goals as goal

pub returns : goal.returns
returns c = laws.parity_is_determined
