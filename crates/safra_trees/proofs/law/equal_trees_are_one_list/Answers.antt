use Rattle.safra_trees.specs.Same.{same_tells}
use Rattle.safra_trees.specs.View.{tree_of}
use Rattle.safra_trees.proofs.law.equal_trees_are_one_list.Goals as goal

pub returns : goal.returns
returns c = λ one other. same_tells (tree_of one) (tree_of other)
