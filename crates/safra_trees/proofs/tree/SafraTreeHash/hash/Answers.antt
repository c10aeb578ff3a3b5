use Rattle.safra_trees.proofs.laws.EqualTrees.{hashed_in_turn}
use Rattle.safra_trees.proofs.tree.SafraTreeHash.hash.Goals as goal

pub returns : goal.returns
returns g c = hashed_in_turn _ c.args.self.now _ _ _ _ c.hash.ensures c.hash-2.ensures c.hash-3.ensures
