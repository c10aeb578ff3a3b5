use Rattle.std.proofs.Common.{◌∙◌, sym}
use Rattle.safra_trees.specs.Same.{same_tells}
use Rattle.safra_trees.specs.View.{tree_of}
use Rattle.safra_trees.proofs.tree.SafraTree.is.Goals as goal

pub returns : goal.returns
returns c =
    let tells = same_tells (tree_of c.args.self.now) (tree_of c.args.other.now) in
    (λ is. tells.0 (sym c.eq.ensures ∙ is), λ same. c.eq.ensures ∙ tells.1 same)
