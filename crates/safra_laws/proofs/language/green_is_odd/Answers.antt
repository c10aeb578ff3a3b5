use Rattle.safra_laws.proofs.parity.GreenIsOdd as law
use Rattle.safra_laws.proofs.language.green_is_odd.Goals as goal

pub returns : goal.returns
returns c = law.green_is_odd
