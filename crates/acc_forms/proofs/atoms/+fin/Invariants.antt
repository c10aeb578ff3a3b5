-- Each part is smaller than the whole; the rest of the parts decides, since those so far don't.
use Rattle.std.proofs.Common.{◌≡◌, ◌+◌, ◌*◌, drop}
use Rattle.std.specs.List.{list_any}
use Rattle.aut_base.specs.Formula.{formula_tree, formula_list, formula_size, formulas_size, trees}
use Rattle.acc_forms.specs.Atoms.{has_fin}
use Rattle.acc_forms.proofs.atoms.+fin.Given as goal

abbrev pub decreases-fin_stands_in : goal.decreases-fin_stands_in
decreases-fin_stands_in l = 2 * formula_size (formula_tree l.formula.now)

abbrev pub decreases-fin_stands_in_some : goal.decreases-fin_stands_in_some
decreases-fin_stands_in_some l = 2 * formulas_size (trees (formula_list l.parts.now)) + 1

abbrev pub invariant-fin_stands_in_some-parts : goal.invariant-fin_stands_in_some-parts
invariant-fin_stands_in_some-parts l = list_any has_fin (drop l.place (formula_list l.parts)) ≡ list_any has_fin (formula_list l.parts)
