-- The lists of a tree as they are read.
use Rattle.std.specs.Prelude.{◌++◌, ℕ, List}
use Rattle.safra_trees.specs.Flat.{nodes_of}
use Rattle.safra_trees.specs.Trees.{Node}
use Rattle.safra_trees.specs.declared.lists.TreeSlices.{TreeSlices}

abbrev pub states_in : TreeSlices → List ℕ
states_in lists = lists.low.now ++ lists.rest.now

abbrev pub sliced_tree : TreeSlices → List Node
sliced_tree lists = nodes_of lists.parents.now (states_in lists) lists.places.now
