use Rattle.parity_det.proofs.ParityLaws.{determinisation_is_determined}
use Rattle.parity_det.proofs.law.determinisation_is_determined.Goals as goal

pub returns : goal.returns
returns c = determinisation_is_determined
