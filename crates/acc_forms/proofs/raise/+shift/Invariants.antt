-- Each part is smaller than the whole; the parts so far are shifted.
use Rattle.std.proofs.Common.{◌≡◌, ◌+◌, ◌*◌, ◌++◌, map, drop}
use Rattle.aut_base.specs.Formula.{formula_tree, formula_list, formula_size, formulas_size, trees}
use Rattle.acc_forms.specs.Shift.{shift}
use Rattle.acc_forms.proofs.raise.+shift.Given as goal

abbrev pub decreases-shifted : goal.decreases-shifted
decreases-shifted l = 2 * formula_size (formula_tree l.formula.now)

abbrev pub decreases-shifted_parts : goal.decreases-shifted_parts
decreases-shifted_parts l = 2 * formulas_size (trees (formula_list l.parts.now)) + 1

abbrev pub invariant-shifted_parts-parts : goal.invariant-shifted_parts-parts
invariant-shifted_parts-parts l = formula_list l.shifts ++ map (shift l.by) (drop l.place (formula_list l.parts)) ≡ map (shift l.by) (formula_list l.parts)
