-- Each part is smaller than the whole; the terms are those of the parts so far.
use Rattle.std.proofs.Common.{◌≡◌, ◌+◌, ◌*◌, map, take}
use Rattle.std.specs.List.{flat_map}
use Rattle.aut_base.specs.Formula.{formula_tree, formula_list, formula_size, formulas_size, trees}
use Rattle.acc_forms.specs.Terms.{terms, choices}
use Rattle.acc_forms.proofs.terms.+terms.Given as goal

abbrev pub decreases-terms_of : goal.decreases-terms_of
decreases-terms_of l = 2 * formula_size (formula_tree l.formula.now)

abbrev pub decreases-terms_of_all : goal.decreases-terms_of_all
decreases-terms_of_all l = 2 * formulas_size (trees (formula_list l.parts.now)) + 1

abbrev pub decreases-terms_of_some : goal.decreases-terms_of_some
decreases-terms_of_some l = 2 * formulas_size (trees (formula_list l.parts.now)) + 1

abbrev pub invariant-terms_of_all-parts : goal.invariant-terms_of_all-parts
invariant-terms_of_all-parts l = l.found ≡ choices (map terms (take l.place (formula_list l.parts)))

abbrev pub invariant-terms_of_some-parts : goal.invariant-terms_of_some-parts
invariant-terms_of_some-parts l = l.found ≡ flat_map terms (take l.place (formula_list l.parts))
