use Rattle.safra_laws.proofs.forward.Runs as law
use Rattle.safra_laws.proofs.language.accepted_is_green.Goals as goal

pub returns : goal.returns
returns c = law.accepted_is_green
