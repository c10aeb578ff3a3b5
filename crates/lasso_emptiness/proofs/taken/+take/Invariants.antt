-- Each part is smaller than the whole; the substitution is done in the parts so far.
use Rattle.std.proofs.Common.{◌≡◌, ◌+◌, ◌*◌, ◌++◌, map, drop}
use Rattle.aut_base.specs.Formula.{formula_tree, formula_list, formula_size, formulas_size, trees}
use Rattle.lasso_emptiness.specs.inner.Taken.{substituted}
use Rattle.lasso_emptiness.proofs.taken.+take.Given as goal

abbrev pub decreases-take : goal.decreases-take
decreases-take l = 2 * formula_size (formula_tree l.condition.now)

abbrev pub decreases-take_parts : goal.decreases-take_parts
decreases-take_parts l = 2 * formulas_size (trees (formula_list l.parts.now)) + 1

abbrev pub invariant-take_parts-parts : goal.invariant-take_parts-parts
invariant-take_parts-parts l = formula_list l.new ++ map (substituted l.side.set l.side.neg l.value) (drop l.place (formula_list l.parts)) ≡ map (substituted l.side.set l.side.neg l.value)
    (formula_list l.parts)
