use Rattle.aut_ops.proofs.flagged.SomeFlags as laws
use Rattle.aut_ops.proofs.law.trimmed_exists.Goals as goal

pub returns : goal.returns
returns c = laws.trimmed_exists
