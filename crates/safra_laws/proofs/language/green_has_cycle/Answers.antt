use Rattle.safra_laws.proofs.backward.Cycles as law
use Rattle.safra_laws.proofs.language.green_has_cycle.Goals as goal

pub returns : goal.returns
returns c = law.green_has_cycle
