use Rattle.aut_ops.proofs.pairs.Existence as laws
use Rattle.aut_ops.proofs.law.pairs_exist.Goals as goal

pub returns : goal.returns
returns c = laws.pairs_exist
