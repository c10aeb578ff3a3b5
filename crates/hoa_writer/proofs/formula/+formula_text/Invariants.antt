-- Each part is smaller than the whole, and the parts before this one are written.
use Rattle.std.proofs.Common.{◌≡◌, ◌+◌, ◌*◌, ◌++◌, take}
use Rattle.aut_base.specs.Formula.{formula_list, formula_size, formula_tree, formulas_size, trees}
use Rattle.hoa_writer.specs.inner.JoinedTexts.{list_text}
use Rattle.hoa_writer.proofs.formula.+formula_text.Given as goal

abbrev pub decreases-push_formula : goal.decreases-push_formula
decreases-push_formula l = 3 * formula_size (formula_tree l.formula.now)

abbrev pub decreases-push_part : goal.decreases-push_part
decreases-push_part l = 3 * formula_size (formula_tree l.formula.now) + 1

abbrev pub decreases-push_parts : goal.decreases-push_parts
decreases-push_parts l = 3 * formulas_size (trees (formula_list l.parts.now)) + 2

abbrev pub invariant-push_parts-parts : goal.invariant-push_parts-parts
invariant-push_parts-parts l = l.out ≡ l.fn.out ++ list_text l.separator (take l.place (formula_list l.parts))
