use Rattle.std.proofs.Common.{◌≡◌, take}
use Rattle.aut_base.specs.Formula.{formula_tree}
use Rattle.acc_forms.specs.Terms.{of_terms}
use Rattle.acc_forms.proofs.terms.of_terms.Given as goal

abbrev pub invariant-terms : goal.invariant-terms
invariant-terms l = formula_tree l.some ≡ of_terms (take l.term-index l.term-items)
