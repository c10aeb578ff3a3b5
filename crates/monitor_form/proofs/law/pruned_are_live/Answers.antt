use Rattle.monitor_form.proofs.LivePaths as laws
use Rattle.monitor_form.proofs.law.pruned_are_live.Goals as goal

pub returns : goal.returns
returns c = laws.pruned_are_live
