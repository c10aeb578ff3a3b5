use Rattle.std.proofs.Common.{◌∙◌, sym}
use Rattle.safra_trees.proofs.flat_step.Placed.{stored_root}
use Rattle.safra_trees.proofs.tree.SafraTree.root_states.Goals as goal

pub returns : goal.returns
returns c =
    let tree = c.args.self.now in
    c.as_slice.ensures ∙ sym (stored_root tree.parents tree.states tree.places tree.stored)
