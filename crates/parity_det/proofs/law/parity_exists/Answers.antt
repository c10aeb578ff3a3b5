use Rattle.parity_det.proofs.SomeForms as laws
use Rattle.parity_det.proofs.law.parity_exists.Goals as goal

pub returns : goal.returns
returns c = laws.parity_exists
