use Rattle.safra_laws.proofs.parity.First as law
use Rattle.safra_laws.proofs.language.priority_by_first.Goals as goal

pub returns : goal.returns
returns c = law.priority_by_first
