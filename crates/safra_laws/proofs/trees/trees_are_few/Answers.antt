use Rattle.safra_laws.proofs.invariant.FewNames as law
use Rattle.safra_laws.proofs.trees.trees_are_few.Goals as goal

pub returns : goal.returns
returns c = law.trees_are_few
