-- What holds of a condition by what holds of its parts, for each recursive function over conditions.
use Rattle.std.proofs.Common.{◌≡◌, ◌∙◌, ℕ, Bool, ◌||◌, List, [], ◌∷◌, map, refl, sym, ap}
use Rattle.std.specs.List.{list_any}
use Rattle.aut_base.specs.Formula.{FormulaTree, more, formula_tree, formula_parts, formula_list, trees, and_of, some_of}
use Rattle.aut_base.specs.declared.formula.Formula.TheVariants.{And, Or}
use Rattle.aut_base.specs.declared.formula.Formulas.{Formulas}
use Rattle.aut_base.proofs.trees.FormulaTrees.{formula_tree-And, formula_tree-Or}
use Rattle.acc_forms.proofs.Parts.{met-And, met-Or}
use Rattle.lasso_emptiness.specs.declared.verdict.Verdict.{Verdict}
use Rattle.lasso_emptiness.specs.declared.verdict.Verdict.TheVariants.{Met, Never, Open}
use Rattle.lasso_emptiness.specs.inner.Judged.{AreAllJudged, IsJudged, IsOneJudged, has_side, some_has_side}
use Rattle.lasso_emptiness.specs.inner.Taken.{all_taken, substituted}

some_has_side-trees : (set : ℕ) (neg : Bool) (fs : List FormulaTree) → some_has_side set neg (trees fs) ≡ list_any (has_side set neg) fs
some_has_side-trees set neg [] = refl
some_has_side-trees set neg (f ∷ fs) = ap (λ b. has_side set neg f || b) (some_has_side-trees set neg fs)

has_side-And : (set : ℕ) (neg : Bool) (p : Formulas) → has_side set neg (formula_tree (And p)) ≡ list_any (has_side set neg) (formula_list p)
has_side-And set neg p = ap (has_side set neg) (formula_tree-And p)
    ∙ ap (λ rest. has_side set neg (formula_parts p).first || (has_side set neg (formula_parts p).second || rest)) (some_has_side-trees set neg (formula_parts p).others)

has_side-Or : (set : ℕ) (neg : Bool) (p : Formulas) → has_side set neg (formula_tree (Or p)) ≡ list_any (has_side set neg) (formula_list p)
has_side-Or set neg p = ap (has_side set neg) (formula_tree-Or p)
    ∙ ap (λ rest. has_side set neg (formula_parts p).first || (has_side set neg (formula_parts p).second || rest)) (some_has_side-trees set neg (formula_parts p).others)

-- a conjunction and a disjunction are judged by their parts
pub judged-And : (cycle : List (List ℕ)) (p : Formulas) (v : Verdict) → AreAllJudged cycle (formula_list p) v → IsJudged cycle (formula_tree (And p)) v
judged-And cycle p Met parts = met-And cycle p ∙ parts
judged-And cycle p Never parts = λ some within. met-And some p ∙ parts some within
judged-And cycle p (Open side) parts = (has_side-And side.set side.neg p ∙ parts.0, met-And cycle p ∙ parts.1)

pub judged-Or : (cycle : List (List ℕ)) (p : Formulas) (v : Verdict) → IsOneJudged cycle (formula_list p) v → IsJudged cycle (formula_tree (Or p)) v
judged-Or cycle p Met parts = met-Or cycle p ∙ parts
judged-Or cycle p Never parts = λ some within. met-Or some p ∙ parts some within
judged-Or cycle p (Open side) parts = (has_side-Or side.set side.neg p ∙ parts.0, met-Or cycle p ∙ parts.1)

all_taken-trees : (set : ℕ) (neg value : Bool) (fs : List FormulaTree) → all_taken set neg value (trees fs) ≡ trees (map (substituted set neg value) fs)
all_taken-trees set neg value [] = refl
all_taken-trees set neg value (f ∷ fs) = ap (λ rest. more (substituted set neg value f) rest) (all_taken-trees set neg value fs)

-- substitution in a conjunction and a disjunction, by their parts
pub taken-And : (set : ℕ) (neg value : Bool) (p q : Formulas) → formula_list q ≡ map (substituted set neg value) (formula_list p)
    → formula_tree (And q) ≡ substituted set neg value (formula_tree (And p))
taken-And set neg value p q parts =
    formula_tree-And q ∙ ap and_of parts
    ∙ sym (ap (substituted set neg value) (formula_tree-And p)
    ∙ ap (λ rest. FormulaTree.And (substituted set neg value (formula_parts p).first) (substituted set neg value (formula_parts p).second) rest)
    (all_taken-trees set neg value (formula_parts p).others))

pub taken-Or : (set : ℕ) (neg value : Bool) (p q : Formulas) → formula_list q ≡ map (substituted set neg value) (formula_list p) → formula_tree (Or q) ≡ substituted set neg value (formula_tree (Or p))
taken-Or set neg value p q parts =
    formula_tree-Or q ∙ ap some_of parts
    ∙ sym (ap (substituted set neg value) (formula_tree-Or p)
    ∙ ap (λ rest. FormulaTree.Or (substituted set neg value (formula_parts p).first) (substituted set neg value (formula_parts p).second) rest)
    (all_taken-trees set neg value (formula_parts p).others))
