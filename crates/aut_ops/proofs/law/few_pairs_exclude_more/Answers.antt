use Rattle.aut_ops.proofs.pairs.Laws as laws
use Rattle.aut_ops.proofs.law.few_pairs_exclude_more.Goals as goal

pub returns : goal.returns
returns c = laws.few_pairs_exclude_more
