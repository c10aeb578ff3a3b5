use Rattle.exploration.proofs.Finished as ends
use Rattle.exploration.proofs.law.ending_is_one.Goals as goal

pub returns : goal.returns
returns g c = ends.has_one_ending _
