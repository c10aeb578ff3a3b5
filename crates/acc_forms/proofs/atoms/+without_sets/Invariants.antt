-- Each part is smaller than the whole; the rest of the parts decides, since those so far don't.
use Rattle.std.proofs.Common.{◌≡◌, ◌+◌, ◌*◌, drop, [], ◌∷◌}
use Rattle.aut_base.specs.Formula.{formula_tree, formula_list, formula_size, formulas_size, trees, met}
use Rattle.acc_forms.specs.inner.Join.{parts_pass}
use Rattle.acc_forms.proofs.atoms.+without_sets.Given as goal

abbrev pub decreases-holds_without_sets : goal.decreases-holds_without_sets
decreases-holds_without_sets l = 2 * formula_size (formula_tree l.formula.now)

abbrev pub decreases-parts_hold_without_sets : goal.decreases-parts_hold_without_sets
decreases-parts_hold_without_sets l = 2 * formulas_size (trees (formula_list l.parts.now)) + 1

abbrev pub invariant-parts_hold_without_sets-parts : goal.invariant-parts_hold_without_sets-parts
invariant-parts_hold_without_sets-parts l =
    parts_pass l.fn.join (met ([] ∷ [])) (drop l.place (formula_list l.parts)) ≡ parts_pass l.fn.join (met ([] ∷ [])) (formula_list l.parts)
