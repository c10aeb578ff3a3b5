use Rattle.aut_ops.proofs.pairs.Laws as laws
use Rattle.aut_ops.proofs.law.reached_by_letters.Goals as goal

pub returns : goal.returns
returns c = laws.reached_by_letters
