use Rattle.safra_laws.proofs.invariant.Canonical as law
use Rattle.safra_laws.proofs.trees.first_is_canonical.Goals as goal

pub returns : goal.returns
returns c = law.first_is_canonical
