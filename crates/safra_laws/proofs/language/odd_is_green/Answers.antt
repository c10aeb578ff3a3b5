use Rattle.safra_laws.proofs.parity.OddIsGreen as law
use Rattle.safra_laws.proofs.language.odd_is_green.Goals as goal

pub returns : goal.returns
returns c = law.odd_is_green
