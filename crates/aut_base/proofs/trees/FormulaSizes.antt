-- A condition is larger than its parts, so a recursion over them ends. For two mutually recursive functions, one over conditions and
-- one over the parts of a conjunction or disjunction, the measures are 2 * formula_size (formula_tree f) for
-- the first and 2 * formulas_size (trees (formula_list fs)) + 1 for the second.
use Rattle.std.proofs.Common.{◌≡◌, ℕ, zero, suc, ◌+◌, ◌≤◌, List, [], ◌∷◌, Some, slice_get, ap, arith}
use Rattle.std.proofs.lemmas.Option.{same_Some, none-some}
use Rattle.aut_base.specs.Formula.{FormulaTree, formula_tree, formula_list, formula_size, formulas_size, trees}
use Rattle.aut_base.specs.declared.formula.Formula.TheVariants.{And, Or}
use Rattle.aut_base.specs.declared.formula.Formulas.{Formulas}
use Rattle.aut_base.proofs.trees.FormulaTrees.{formula_tree-And, formula_tree-Or}

pub formula_size-And : (p : Formulas) → formula_size (formula_tree (And p)) ≡ 1 + formulas_size (trees (formula_list p))
formula_size-And p = ap formula_size (formula_tree-And p)

pub formula_size-Or : (p : Formulas) → formula_size (formula_tree (Or p)) ≡ 1 + formulas_size (trees (formula_list p))
formula_size-Or p = ap formula_size (formula_tree-Or p)

-- the part at an index
pub formula_size-at : (parts : List FormulaTree) (place : ℕ) (part : FormulaTree) → slice_get parts place ≡ Some part → formula_size part ≤ formulas_size (trees parts)
formula_size-at [] place part is = absurd (none-some part is)
formula_size-at (x ∷ xs) zero part is = let same : formula_size x ≡ formula_size part = ap formula_size (same_Some x part is) in omega arith
formula_size-at (x ∷ xs) (suc place) part is = let rest = formula_size-at xs place part is in omega arith
