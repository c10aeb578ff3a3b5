use Rattle.aut_ops.proofs.flagged.FlagLaws as laws
use Rattle.aut_ops.proofs.law.pruned_is_determined.Goals as goal

pub returns : goal.returns
returns c = laws.pruned_is_determined
