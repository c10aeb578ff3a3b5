-- The tree of a formula, constructor by constructor.
use Rattle.std.proofs.Common.{◌≡◌, ℕ, Bool, ◌∙◌, sym, ap, map, ◌∷◌}
use Rattle.aut_base.specs.Formula.{FormulaTree, FormulaParts, formula_step, formula_tree, formula_parts, formula_list, trees}
use Rattle.aut_base.specs.declared.formula.Formula.TheVariants.{True, False, Inf, Fin, And, Or, rolls-True, rolls-False, rolls-Inf, rolls-Fin, rolls-And, rolls-Or}
use Rattle.aut_base.specs.declared.formula.Formula.TheOpen.{Formula-F, Formulas-F}
use Rattle.aut_base.specs.declared.formula.Formula.TheFolds.{fold-roll-Formula, fold_out-Formulas}
use Rattle.aut_base.specs.declared.formula.Formulas.{Formulas}

-- the parts of one level, as trees
abbrev parts_step : Formulas-F FormulaTree FormulaParts → FormulaParts
parts_step ls = record { first = ls.first.value; second = ls.second.value; others = ls.others.items }

pub formula_tree-True : formula_tree True ≡ FormulaTree.True
formula_tree-True = ap formula_tree (sym rolls-True) ∙ fold-roll-Formula FormulaTree FormulaParts formula_step parts_step Formula-F.True

pub formula_tree-False : formula_tree False ≡ FormulaTree.False
formula_tree-False = ap formula_tree (sym rolls-False) ∙ fold-roll-Formula FormulaTree FormulaParts formula_step parts_step Formula-F.False

pub formula_tree-Inf : (set : ℕ) (neg : Bool) → formula_tree (Inf set neg) ≡ FormulaTree.Inf set neg
formula_tree-Inf set neg = ap formula_tree (sym (rolls-Inf set neg)) ∙ fold-roll-Formula FormulaTree FormulaParts formula_step parts_step (Formula-F.Inf set neg)

pub formula_tree-Fin : (set : ℕ) (neg : Bool) → formula_tree (Fin set neg) ≡ FormulaTree.Fin set neg
formula_tree-Fin set neg = ap formula_tree (sym (rolls-Fin set neg)) ∙ fold-roll-Formula FormulaTree FormulaParts formula_step parts_step (Formula-F.Fin set neg)

pub formula_tree-And : (p : Formulas) → formula_tree (And p) ≡ FormulaTree.And (formula_parts p).first (formula_parts p).second (trees (formula_parts p).others)
formula_tree-And p = ap formula_tree (sym (rolls-And p)) ∙ fold-roll-Formula FormulaTree FormulaParts formula_step parts_step (Formula-F.And p)

pub formula_tree-Or : (p : Formulas) → formula_tree (Or p) ≡ FormulaTree.Or (formula_parts p).first (formula_parts p).second (trees (formula_parts p).others)
formula_tree-Or p = ap formula_tree (sym (rolls-Or p)) ∙ fold-roll-Formula FormulaTree FormulaParts formula_step parts_step (Formula-F.Or p)

-- the parts, by the fields
pub formula_parts-fields : (p : Formulas) → formula_parts p ≡ record { first = formula_tree p.first.value; second = formula_tree p.second.value; others = map formula_tree p.others.items }
formula_parts-fields p = fold_out-Formulas FormulaTree FormulaParts formula_step parts_step p

-- the list of parts, by the fields
pub formula_list-fields : (p : Formulas) → formula_list p ≡ formula_tree p.first.value ∷ formula_tree p.second.value ∷ map formula_tree p.others.items
formula_list-fields p = ap (λ parts. parts.first ∷ parts.second ∷ parts.others) (formula_parts-fields p)

-- The trees of a conjunction and of a disjunction, by the fields.
pub formula_tree-And-fields : (p : Formulas) → formula_tree (And p) ≡ FormulaTree.And (formula_tree p.first.value) (formula_tree p.second.value) (trees (map formula_tree p.others.items))
formula_tree-And-fields p = formula_tree-And p ∙ ap (λ parts. FormulaTree.And parts.first parts.second (trees parts.others)) (formula_parts-fields p)

pub formula_tree-Or-fields : (p : Formulas) → formula_tree (Or p) ≡ FormulaTree.Or (formula_tree p.first.value) (formula_tree p.second.value) (trees (map formula_tree p.others.items))
formula_tree-Or-fields p = formula_tree-Or p ∙ ap (λ parts. FormulaTree.Or parts.first parts.second (trees parts.others)) (formula_parts-fields p)

-- These equations as one rule set for tactics.
pub ruleset formula_trees = (formula_tree-True, formula_tree-False, formula_tree-Inf, formula_tree-Fin, formula_tree-And-fields, formula_tree-Or-fields)
