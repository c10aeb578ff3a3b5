use Rattle.monitor_form.proofs.MonitorLaws as laws
use Rattle.monitor_form.proofs.law.subset_form_is_determined.Goals as goal

pub returns : goal.returns
returns c = laws.subset_form_is_determined
