use Rattle.std.proofs.Common.{arith}
use Rattle.aut_base.specs.Label.{label_tree}
use Rattle.aut_base.proofs.trees.LabelTrees.{label_list-fields}
use Rattle.aut_base.proofs.trees.Places.{tree_behind_two}
use Rattle.aut_base.proofs.label.Labels.at.Goals as goal

pub returns-in_default : goal.returns-in_default
returns-in_default c =
    let parts = c.args.self.now in
    tree_behind_two label_tree _ _ parts.others.items _ c.args.place _ (label_list-fields parts) (omega arith) c.requires c.index.ensures
