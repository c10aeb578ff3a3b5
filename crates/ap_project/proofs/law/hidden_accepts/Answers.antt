use Rattle.ap_project.proofs.HiddenAutomata as proved
use Rattle.ap_project.proofs.law.hidden_accepts.Goals as goal

pub returns : goal.returns
returns c = proved.hidden_accepts
