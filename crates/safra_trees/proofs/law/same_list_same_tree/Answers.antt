use Rattle.safra_trees.proofs.laws.SameTrees.{same_tree}
use Rattle.safra_trees.proofs.law.same_list_same_tree.Goals as goal

pub returns : goal.returns
returns c = same_tree
