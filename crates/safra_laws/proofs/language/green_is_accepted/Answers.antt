use Rattle.safra_laws.proofs.backward.Accepted as law
use Rattle.safra_laws.proofs.language.green_is_accepted.Goals as goal

pub returns : goal.returns
returns c = law.green_is_accepted
