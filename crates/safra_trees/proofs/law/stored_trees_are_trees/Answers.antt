use Rattle.safra_trees.proofs.laws.StoredTrees.{stored_tree}
use Rattle.safra_trees.proofs.law.stored_trees_are_trees.Goals as goal

pub returns : goal.returns
returns c = λ tree. stored_tree tree.parents tree.states tree.places tree.stored
