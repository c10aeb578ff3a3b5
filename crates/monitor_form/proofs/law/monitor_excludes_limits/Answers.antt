use Rattle.monitor_form.proofs.MonitorLaws as laws
use Rattle.monitor_form.proofs.law.monitor_excludes_limits.Goals as goal

pub returns : goal.returns
returns c = laws.monitor_excludes_limits
