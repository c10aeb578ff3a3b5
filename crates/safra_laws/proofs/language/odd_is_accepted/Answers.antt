use Rattle.safra_laws.proofs.parity.Both as law
use Rattle.safra_laws.proofs.language.odd_is_accepted.Goals as goal

pub returns : goal.returns
returns c = law.odd_is_accepted
