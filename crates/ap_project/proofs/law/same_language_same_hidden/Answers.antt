use Rattle.ap_project.proofs.Languages.{same_hidden}
use Rattle.ap_project.proofs.law.same_language_same_hidden.Goals as goal

pub returns : goal.returns
returns g c = λ how name same. same_hidden how name _ _ same
