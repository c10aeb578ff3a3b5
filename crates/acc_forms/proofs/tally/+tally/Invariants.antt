-- Each part is smaller than the whole; the tally is that of the parts so far.
use Rattle.std.proofs.Common.{◌≡◌, ◌+◌, ◌*◌, take}
use Rattle.aut_base.specs.Formula.{formula_tree, formula_list, formula_size, formulas_size, trees}
use Rattle.acc_forms.specs.inner.Tally.{part_terms, tally_of}
use Rattle.acc_forms.proofs.tally.+tally.Given as goal

abbrev pub decreases-tally_of_formula : goal.decreases-tally_of_formula
decreases-tally_of_formula l = 2 * formula_size (formula_tree l.formula.now)

abbrev pub decreases-tally_of_parts : goal.decreases-tally_of_parts
decreases-tally_of_parts l = 2 * formulas_size (trees (formula_list l.parts.now)) + 1

abbrev pub invariant-tally_of_parts-parts : goal.invariant-tally_of_parts-parts
invariant-tally_of_parts-parts l = l.all ≡ tally_of (part_terms l.join (take l.place (formula_list l.parts)))
