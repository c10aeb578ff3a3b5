-- Each part is smaller than the whole; the parts so far are exchanged.
use Rattle.std.proofs.Common.{◌≡◌, ◌+◌, ◌*◌, ◌++◌, map, drop}
use Rattle.aut_base.specs.Formula.{formula_tree, formula_list, formula_size, formulas_size, trees}
use Rattle.acc_forms.specs.Dual.{dual}
use Rattle.acc_forms.proofs.duality.+dual.Given as goal

abbrev pub decreases-exchanged : goal.decreases-exchanged
decreases-exchanged l = 2 * formula_size (formula_tree l.formula.now)

abbrev pub decreases-exchanged_parts : goal.decreases-exchanged_parts
decreases-exchanged_parts l = 2 * formulas_size (trees (formula_list l.parts.now)) + 1

abbrev pub invariant-exchanged_parts-parts : goal.invariant-exchanged_parts-parts
invariant-exchanged_parts-parts l = formula_list l.duals ++ map dual (drop l.place (formula_list l.parts)) ≡ map dual (formula_list l.parts)
