use Rattle.monitor_form.proofs.MonitorLaws as laws
use Rattle.monitor_form.proofs.law.monitor_is_determined.Goals as goal

pub returns : goal.returns
returns c = laws.monitor_is_determined
