use Rattle.ap_project.proofs.FixedName as proved
use Rattle.ap_project.proofs.law.hidden_present.Goals as goal

pub returns : goal.returns
returns c = proved.hidden_present
