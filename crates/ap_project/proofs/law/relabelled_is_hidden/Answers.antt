use Rattle.ap_project.proofs.Relabelled as proved
use Rattle.ap_project.proofs.law.relabelled_is_hidden.Goals as goal

pub returns : goal.returns
returns c = proved.relabelled_is_hidden
