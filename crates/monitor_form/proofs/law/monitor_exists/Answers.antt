use Rattle.monitor_form.proofs.SomeMonitors.{monitor_exists}
use Rattle.monitor_form.proofs.law.monitor_exists.Goals as goal

pub returns : goal.returns
returns c = monitor_exists
