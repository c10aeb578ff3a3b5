use Rattle.std.proofs.Common.{◌≡◌, ◌≤◌, drop, map, max}
use Rattle.parity_det.specs.Determinisation.{width}
use Rattle.safra_trees.specs.View.{packed_tree}
use Rattle.parity_det.proofs.marks.width.Given as goal

abbrev pub invariant-trees : goal.invariant-trees
invariant-trees l = (1 ≤ l.most) × (max l.most (width (map packed_tree (drop l.tree-index l.trees))) ≡ width (map packed_tree l.trees))
