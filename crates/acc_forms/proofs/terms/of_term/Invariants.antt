use Rattle.std.proofs.Common.{◌≡◌, take}
use Rattle.aut_base.specs.Formula.{formula_tree}
use Rattle.acc_forms.specs.Terms.{of_term}
use Rattle.acc_forms.proofs.terms.of_term.Given as goal

abbrev pub invariant-literals : goal.invariant-literals
invariant-literals l = formula_tree l.all ≡ of_term (take l.literal-index l.literal-items)
