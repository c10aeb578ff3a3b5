use Rattle.aut_ops.proofs.pairs.Existence as laws
use Rattle.aut_ops.proofs.law.products_exist.Goals as goal

pub returns : goal.returns
returns c = laws.products_exist
