use Rattle.aut_ops.proofs.flagged.SomeFlags as laws
use Rattle.aut_ops.proofs.law.pruned_exists.Goals as goal

pub returns : goal.returns
returns c = laws.pruned_exists
