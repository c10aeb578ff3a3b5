use Rattle.std.proofs.Common.{◌∙◌, ap, sym}
use Rattle.std.specs.List.{list_all}
use Rattle.acc_forms.proofs.JoinLaws.{parts_under-And}
use Rattle.aut_base.specs.Formula.{formula_tree}
use Rattle.degeneralise.specs.Buchi.{is_generalised_buchi}
use Rattle.degeneralise.specs.inner.Parts.{is_inf_atom}
use Rattle.degeneralise.proofs.generalised.is_generalised_buchi.Goals as goal

pub returns-in-And : goal.returns-in-And
returns-in-And c = c.are_infs.ensures ∙ sym (ap (λ f. is_generalised_buchi (formula_tree f)) c.in-And.is ∙ ap (list_all is_inf_atom) (parts_under-And c.in-And.parts))
