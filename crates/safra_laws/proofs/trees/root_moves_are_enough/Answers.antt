use Rattle.safra_laws.proofs.invariant.RootMoves as law
use Rattle.safra_laws.proofs.trees.root_moves_are_enough.Goals as goal

pub returns : goal.returns
returns c = law.root_moves_are_enough
