use Rattle.aut_ops.proofs.flagged.FlagLaws as laws
use Rattle.aut_ops.proofs.law.trimmed_is_determined.Goals as goal

pub returns : goal.returns
returns c = laws.trimmed_is_determined
