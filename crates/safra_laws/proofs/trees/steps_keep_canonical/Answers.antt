use Rattle.safra_laws.proofs.invariant.Canonical as law
use Rattle.safra_laws.proofs.trees.steps_keep_canonical.Goals as goal

pub returns : goal.returns
returns c = law.steps_keep_canonical
