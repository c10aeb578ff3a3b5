use Rattle.std.proofs.Common.{◌∙◌, ◌++◌, sym}
use Rattle.safra_trees.proofs.flat_step.Placed.{nodes_length}
use Rattle.safra_trees.proofs.packed.PackedTree.nodes.Goals as goal

pub returns : goal.returns
returns c =
    let lists = c.args.self.now.lists in
    c.len.ensures ∙ sym (nodes_length lists.parents (lists.low ++ lists.rest) lists.places)
