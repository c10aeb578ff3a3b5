use Rattle.std.proofs.Common.{arith, length}
use Rattle.std.proofs.lemmas.List.{length-map}
use Rattle.std.proofs.lemmas.List.FromFn.{length-range_with_len}
use Rattle.std.specs.List.{range_with_len}
use Rattle.safra_trees.specs.Flat.{node_of}
use Rattle.safra_trees.proofs.tree.SafraTree.nodes.Goals as goal

pub returns : goal.returns
returns c =
    let tree = c.args.self.now in
    omega (arith, c.len.ensures, length-map (range_with_len 0 (length tree.parents)) (node_of tree.parents tree.states tree.places), length-range_with_len 0 (length tree.parents))
