-- Each part is smaller than the whole; the chosen edges suffice for the parts so far.
use Rattle.std.proofs.Common.{◌≡◌, ◌+◌, ◌*◌, true, take}
use Rattle.std.specs.List.{list_all}
use Rattle.aut_base.specs.Formula.{formula_tree, formula_list, formula_size, formulas_size, met, trees}
use Rattle.lasso_emptiness.specs.inner.Needed.{Suits}
use Rattle.lasso_emptiness.proofs.needed.+needed.Given as goal

abbrev pub decreases-add_needed : goal.decreases-add_needed
decreases-add_needed l = 2 * formula_size (formula_tree l.condition.now)

abbrev pub decreases-add_for_all : goal.decreases-add_for_all
decreases-add_for_all l = 2 * formulas_size (trees (formula_list l.parts.now)) + 1

abbrev pub invariant-add_for_all-parts : goal.invariant-add_for_all-parts
invariant-add_for_all-parts l = Suits l.links l.edges (λ marks. list_all (met marks) (take l.place (formula_list l.parts)) ≡ true) l.fn.needed l.needed
