use Rattle.std.proofs.Common.{◌≡◌, ◌*◌, ◌+◌, drop}
use Rattle.aut_base.specs.Formula.{formula_list, formula_size, formula_tree, formulas_size, trees}
use Rattle.hoa_reader.specs.Validity.{all_sets_below}
use Rattle.hoa_reader.proofs.elaborate.leaves.+sets_below.Given as goal

abbrev pub invariant-all_sets_below-places : goal.invariant-all_sets_below-places
invariant-all_sets_below-places l = all_sets_below l.sets (trees (drop l.place (formula_list l.parts))) ≡ all_sets_below l.sets (trees (formula_list l.parts))

abbrev pub decreases-sets_below : goal.decreases-sets_below
decreases-sets_below l = 2 * formula_size (formula_tree l.formula.now)

abbrev pub decreases-all_sets_below : goal.decreases-all_sets_below
decreases-all_sets_below l = 2 * formulas_size (trees (formula_list l.parts.now)) + 1
