use Rattle.parity_det.proofs.SomeForms as laws
use Rattle.parity_det.proofs.law.complement_exists.Goals as goal

pub returns : goal.returns
returns c = laws.complement_exists
