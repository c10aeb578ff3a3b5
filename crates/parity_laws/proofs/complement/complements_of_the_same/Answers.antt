use Rattle.parity_laws.proofs.complements.Dual as law
use Rattle.parity_laws.proofs.complement.complements_of_the_same.Goals as goal

pub returns : goal.returns
returns c = law.complements_of_the_same
