use Rattle.std.proofs.Common.{arith, map}
use Rattle.parity_det.proofs.Widths.{wide}
use Rattle.safra_trees.specs.View.{packed_tree}
use Rattle.parity_det.proofs.marks.width.Goals as goal

pub trees-init : goal.trees-init
trees-init c = (omega arith, (let most = wide (map packed_tree c.args.trees.now) in omega (arith, most)))
