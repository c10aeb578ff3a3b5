use Rattle.safra_laws.proofs.TreesAfter as law
use Rattle.safra_laws.proofs.trees.steps_keep_trees.Goals as goal

pub returns : goal.returns
returns c = law.steps_keep_trees
