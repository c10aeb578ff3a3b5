use Rattle.exploration.proofs.Finished as ends
use Rattle.exploration.proofs.law.ends_or_meets.Goals as goal

pub returns : goal.returns
returns g c = ends.ends_or_meets _
