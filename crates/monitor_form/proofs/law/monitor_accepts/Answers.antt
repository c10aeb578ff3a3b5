use Rattle.monitor_form.proofs.Prefixed as laws
use Rattle.monitor_form.proofs.law.monitor_accepts.Goals as goal

pub returns : goal.returns
returns c = laws.monitor_accepts
