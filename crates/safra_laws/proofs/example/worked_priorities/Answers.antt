use Rattle.safra_laws.proofs.worked.Example as law
use Rattle.safra_laws.proofs.example.worked_priorities.Goals as goal

pub returns : goal.returns
returns c = law.worked_priorities
