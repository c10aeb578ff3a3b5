use Rattle.parity_laws.proofs.complements.Dual as law
use Rattle.parity_laws.proofs.complement.dual_is_complement.Goals as goal

pub returns : goal.returns
returns c = law.dual_is_complement
