use Rattle.safra_laws.proofs.invariant.FirstTree as law
use Rattle.safra_laws.proofs.trees.first_is_tree.Goals as goal

pub returns : goal.returns
returns c = law.first_is_tree
