use Rattle.safra_laws.proofs.worked.Example as law
use Rattle.safra_laws.proofs.example.worked_round.Goals as goal

pub returns : goal.returns
returns c = law.worked_round
