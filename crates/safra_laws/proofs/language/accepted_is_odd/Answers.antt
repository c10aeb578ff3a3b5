use Rattle.safra_laws.proofs.parity.Both as law
use Rattle.safra_laws.proofs.language.accepted_is_odd.Goals as goal

pub returns : goal.returns
returns c = law.accepted_is_odd
