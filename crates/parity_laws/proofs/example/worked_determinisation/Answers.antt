use Rattle.parity_laws.proofs.worked.Example as law
use Rattle.parity_laws.proofs.example.worked_determinisation.Goals as goal

pub returns : goal.returns
returns c = law.worked_determinisation
