use Rattle.aut_ops.proofs.pairs.Laws as laws
use Rattle.aut_ops.proofs.law.pairs_are_determined.Goals as goal

pub returns : goal.returns
returns c = laws.pairs_are_determined
