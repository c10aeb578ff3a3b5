use Rattle.parity_det.proofs.ParityLaws as laws
use Rattle.parity_det.proofs.law.complement_is_determined.Goals as goal

pub returns : goal.returns
returns c = laws.complement_is_determined
