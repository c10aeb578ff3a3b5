-- What holds of a condition by what holds of its parts, for each recursive function over conditions.
use Rattle.std.proofs.Common.{◌≡◌, ◌∙◌, ℕ, zero, suc, ◌&&◌, ◌||◌, List, [], ◌∷◌, map, Some, slice_get, refl, sym, ap, subst}
use Rattle.std.proofs.lemmas.Option.{same_Some, none-some}
use Rattle.std.specs.List.{list_any, list_all}
use Rattle.aut_base.specs.Formula.{FormulaTree, more, formula_tree, formula_parts, formula_list, trees, met, all_met, some_met, SetsBelow, EachSetsBelow, and_of, some_of}
use Rattle.aut_base.specs.declared.formula.Formula.TheVariants.{And, Or}
use Rattle.aut_base.specs.declared.formula.Formulas.{Formulas}
use Rattle.aut_base.proofs.trees.FormulaSizes.{formula_size-at}
use Rattle.aut_base.proofs.trees.FormulaTrees.{formula_tree-And, formula_tree-Or}
use Rattle.acc_forms.specs.Atoms.{has_fin, some_fin}
use Rattle.acc_forms.specs.Dual.{dual, duals}
use Rattle.acc_forms.specs.Shift.{shift, shifts}

all_met-trees : (cycle : List (List ℕ)) (fs : List FormulaTree) → all_met cycle (trees fs) ≡ list_all (met cycle) fs
all_met-trees cycle [] = refl
all_met-trees cycle (f ∷ fs) = ap (λ b. met cycle f && b) (all_met-trees cycle fs)

some_met-trees : (cycle : List (List ℕ)) (fs : List FormulaTree) → some_met cycle (trees fs) ≡ list_any (met cycle) fs
some_met-trees cycle [] = refl
some_met-trees cycle (f ∷ fs) = ap (λ b. met cycle f || b) (some_met-trees cycle fs)

-- the truth of a conjunction and of a disjunction of two parts or more
pub met-all_of : (cycle : List (List ℕ)) (a b : FormulaTree) (cs : List FormulaTree) → met cycle (and_of (a ∷ b ∷ cs)) ≡ list_all (met cycle) (a ∷ b ∷ cs)
met-all_of cycle a b cs = ap (λ rest. met cycle a && (met cycle b && rest)) (all_met-trees cycle cs)

pub met-some_of : (cycle : List (List ℕ)) (a b : FormulaTree) (cs : List FormulaTree) → met cycle (some_of (a ∷ b ∷ cs)) ≡ list_any (met cycle) (a ∷ b ∷ cs)
met-some_of cycle a b cs = ap (λ rest. met cycle a || (met cycle b || rest)) (some_met-trees cycle cs)

pub met-And : (cycle : List (List ℕ)) (p : Formulas) → met cycle (formula_tree (And p)) ≡ list_all (met cycle) (formula_list p)
met-And cycle p = ap (met cycle) (formula_tree-And p) ∙ met-all_of cycle (formula_parts p).first (formula_parts p).second (formula_parts p).others

pub met-Or : (cycle : List (List ℕ)) (p : Formulas) → met cycle (formula_tree (Or p)) ≡ list_any (met cycle) (formula_list p)
met-Or cycle p = ap (met cycle) (formula_tree-Or p) ∙ met-some_of cycle (formula_parts p).first (formula_parts p).second (formula_parts p).others

some_fin-trees : (fs : List FormulaTree) → some_fin (trees fs) ≡ list_any has_fin fs
some_fin-trees [] = refl
some_fin-trees (f ∷ fs) = ap (λ b. has_fin f || b) (some_fin-trees fs)

pub has_fin-And : (p : Formulas) → has_fin (formula_tree (And p)) ≡ list_any has_fin (formula_list p)
has_fin-And p = ap has_fin (formula_tree-And p) ∙ ap (λ rest. has_fin (formula_parts p).first || (has_fin (formula_parts p).second || rest)) (some_fin-trees (formula_parts p).others)

pub has_fin-Or : (p : Formulas) → has_fin (formula_tree (Or p)) ≡ list_any has_fin (formula_list p)
has_fin-Or p = ap has_fin (formula_tree-Or p) ∙ ap (λ rest. has_fin (formula_parts p).first || (has_fin (formula_parts p).second || rest)) (some_fin-trees (formula_parts p).others)

duals-trees : (fs : List FormulaTree) → duals (trees fs) ≡ trees (map dual fs)
duals-trees [] = refl
duals-trees (f ∷ fs) = ap (λ rest. more (dual f) rest) (duals-trees fs)

-- the condition whose parts are the duals
pub dual-And : (p q : Formulas) → formula_list q ≡ map dual (formula_list p) → formula_tree (Or q) ≡ dual (formula_tree (And p))
dual-And p q parts =
    formula_tree-Or q ∙ ap some_of parts
    ∙ sym (ap dual (formula_tree-And p) ∙ ap (λ rest. FormulaTree.Or (dual (formula_parts p).first) (dual (formula_parts p).second) rest) (duals-trees (formula_parts p).others))

pub dual-Or : (p q : Formulas) → formula_list q ≡ map dual (formula_list p) → formula_tree (And q) ≡ dual (formula_tree (Or p))
dual-Or p q parts =
    formula_tree-And q ∙ ap and_of parts
    ∙ sym (ap dual (formula_tree-Or p) ∙ ap (λ rest. FormulaTree.And (dual (formula_parts p).first) (dual (formula_parts p).second) rest) (duals-trees (formula_parts p).others))

shifts-trees : (n : ℕ) (fs : List FormulaTree) → shifts n (trees fs) ≡ trees (map (shift n) fs)
shifts-trees n [] = refl
shifts-trees n (f ∷ fs) = ap (λ rest. more (shift n f) rest) (shifts-trees n fs)

-- the condition whose parts are the shifted ones
pub shift-And : (n : ℕ) (p q : Formulas) → formula_list q ≡ map (shift n) (formula_list p) → formula_tree (And q) ≡ shift n (formula_tree (And p))
shift-And n p q parts =
    formula_tree-And q ∙ ap and_of parts
    ∙ sym (ap (shift n) (formula_tree-And p) ∙ ap (λ rest. FormulaTree.And (shift n (formula_parts p).first) (shift n (formula_parts p).second) rest) (shifts-trees n (formula_parts p).others))

pub shift-Or : (n : ℕ) (p q : Formulas) → formula_list q ≡ map (shift n) (formula_list p) → formula_tree (Or q) ≡ shift n (formula_tree (Or p))
shift-Or n p q parts =
    formula_tree-Or q ∙ ap some_of parts
    ∙ sym (ap (shift n) (formula_tree-Or p) ∙ ap (λ rest. FormulaTree.Or (shift n (formula_parts p).first) (shift n (formula_parts p).second) rest) (shifts-trees n (formula_parts p).others))

-- the sets of the part at an index
pub below-at : (n : ℕ) (fs : List FormulaTree) (place : ℕ) (part : FormulaTree) → slice_get fs place ≡ Some part → EachSetsBelow n (trees fs) → SetsBelow n part
below-at n [] place part is below = absurd (none-some part is)
below-at n (f ∷ fs) zero part is below = subst (SetsBelow n) (same_Some f part is) below.0
below-at n (f ∷ fs) (suc place) part is below = below-at n fs place part is below.1

-- the sizes of parts, by which a recursion over them ends
pub ruleset part_sizes = (formula_size-at)
