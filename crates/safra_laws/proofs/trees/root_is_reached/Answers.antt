use Rattle.safra_laws.proofs.invariant.Root as law
use Rattle.safra_laws.proofs.trees.root_is_reached.Goals as goal

pub returns : goal.returns
returns c = law.root_is_reached
