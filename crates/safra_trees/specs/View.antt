-- A stored tree as the list of its nodes.
use Rattle.std.specs.Prelude.{List, ◌++◌}
use Rattle.safra_trees.specs.Flat.{nodes_of}
use Rattle.safra_trees.specs.Trees.{Node}
use Rattle.safra_trees.specs.declared.lists.TreeLists.{TreeLists}
use Rattle.safra_trees.specs.declared.packed.PackedTree.{PackedTree}
use Rattle.safra_trees.specs.declared.tree.SafraTree.{SafraTree}

abbrev pub tree_of : SafraTree → List Node
tree_of tree = nodes_of tree.parents tree.states tree.places

-- the same of lists, and of a tree that is stored in fewer bytes
abbrev pub listed_tree : TreeLists → List Node
listed_tree lists = nodes_of lists.parents (lists.low ++ lists.rest) lists.places

abbrev pub packed_tree : PackedTree → List Node
packed_tree tree = listed_tree tree.lists
