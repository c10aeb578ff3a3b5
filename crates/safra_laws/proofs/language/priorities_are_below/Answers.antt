use Rattle.safra_laws.proofs.parity.Least as law
use Rattle.safra_laws.proofs.language.priorities_are_below.Goals as goal

pub returns : goal.returns
returns c = law.priorities_are_below
