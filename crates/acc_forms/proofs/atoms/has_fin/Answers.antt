use Rattle.std.proofs.Common.{◌∙◌, sym}
use Rattle.aut_base.specs.Formula.{formula_tree}
use Rattle.acc_forms.proofs.AtomLaws.{met-longer}
use Rattle.acc_forms.proofs.atoms.has_fin.Goals as goal

pub returns-clause-meaning : goal.returns-clause-meaning
returns-clause-meaning c = λ none cycle edges holds. met-longer cycle edges (formula_tree c.args.formula.now) (sym c.fin_stands_in.ensures ∙ none) holds
