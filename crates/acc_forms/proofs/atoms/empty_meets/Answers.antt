use Rattle.std.proofs.Common.{◌∙◌}
use Rattle.aut_base.specs.Formula.{formula_tree}
use Rattle.acc_forms.proofs.AtomLaws.{met-empty}
use Rattle.acc_forms.proofs.atoms.empty_meets.Goals as goal

pub returns-clause-meaning : goal.returns-clause-meaning
returns-clause-meaning c = λ cycle some empty. c.holds_without_sets.ensures ∙ met-empty cycle some empty (formula_tree c.args.formula.now)
