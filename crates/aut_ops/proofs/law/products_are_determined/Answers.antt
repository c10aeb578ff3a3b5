use Rattle.aut_ops.proofs.pairs.Laws as laws
use Rattle.aut_ops.proofs.law.products_are_determined.Goals as goal

pub returns : goal.returns
returns c = laws.products_are_determined
