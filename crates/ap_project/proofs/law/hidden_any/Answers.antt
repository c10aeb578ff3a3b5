use Rattle.ap_project.proofs.AnyHidden as proved
use Rattle.ap_project.proofs.law.hidden_any.Goals as goal

pub returns : goal.returns
returns c = proved.hidden_any
