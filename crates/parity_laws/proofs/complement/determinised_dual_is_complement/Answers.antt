use Rattle.parity_laws.proofs.directions.Both as law
use Rattle.parity_laws.proofs.complement.determinised_dual_is_complement.Goals as goal

pub returns : goal.returns
returns c = law.determinised_dual
