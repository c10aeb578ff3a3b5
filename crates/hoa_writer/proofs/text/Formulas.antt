-- The text of a condition's parts.
use Rattle.std.proofs.Common.{◌≡◌, ℕ, zero, suc, ◌+◌, ◌<◌, ◌∙◌, sym, ap, refl, arith, List, [], ◌∷◌, ◌++◌, take, Some, slice_get}
use Rattle.std.proofs.lemmas.List.{append-nil, append_assoc}
use Rattle.std.specs.List.{flat_map}
use Rattle.std.specs.Prelude.{codes}
use Rattle.aut_base.specs.Formula.{FormulaTree, trees, formula_tree, formula_list, formula_parts}
use Rattle.aut_base.specs.declared.formula.Formula.TheVariants as formula
use Rattle.aut_base.specs.declared.formula.Formulas.{Formulas}
use Rattle.aut_base.proofs.trees.FormulaTrees.{formula_tree-And, formula_tree-Or}
use Rattle.hoa_writer.specs.CanonicalText.{formula_text, parts_text}
use Rattle.hoa_writer.specs.inner.JoinedTexts.{part_text, list_text}

parts_text-trees : (separator : List ℕ) (fs : List FormulaTree) → parts_text separator (trees fs) ≡ flat_map (λ f. separator ++ part_text f) fs
parts_text-trees separator [] = refl
parts_text-trees separator (f ∷ fs) =
    ap (λ t. separator ++ (part_text f ++ t)) (parts_text-trees separator fs) ∙ sym (append_assoc separator (part_text f) (flat_map (λ g. separator ++ part_text g) fs))

two_parts : (separator : List ℕ) (a b : FormulaTree) (fs : List FormulaTree) → part_text a ++ (separator ++ (part_text b ++ parts_text separator (trees fs))) ≡ list_text separator (a ∷ b ∷ fs)
two_parts separator a b fs = ap (λ t. part_text a ++ t) (parts_text-trees separator (b ∷ fs))

-- the text of a conjunction or disjunction
pub text-And : (p : Formulas) → formula_text (formula_tree (formula.And p)) ≡ list_text (codes " & ") (formula_list p)
text-And p = ap formula_text (formula_tree-And p) ∙ two_parts (codes " & ") (formula_parts p).first (formula_parts p).second (formula_parts p).others

pub text-Or : (p : Formulas) → formula_text (formula_tree (formula.Or p)) ≡ list_text (codes " | ") (formula_list p)
text-Or p = ap formula_text (formula_tree-Or p) ∙ two_parts (codes " | ") (formula_parts p).first (formula_parts p).second (formula_parts p).others

each_more : (separator : List ℕ) (fs : List FormulaTree) (place : ℕ) (f : FormulaTree) → slice_get fs place ≡ Some f
    → flat_map (λ g. separator ++ part_text g) (take (suc place) fs) ≡ flat_map (λ g. separator ++ part_text g) (take place fs) ++ (separator ++ part_text f)
each_more separator [] place f e = absurd cc
each_more separator (g ∷ gs) zero f e = let same : g ≡ f = cc in append-nil (separator ++ part_text g) ∙ ap (λ h. separator ++ part_text h) same
each_more separator (g ∷ gs) (suc k) f e =
    ap (λ t. (separator ++ part_text g) ++ t) (each_more separator gs k f e)
    ∙ sym (append_assoc (separator ++ part_text g) (flat_map (λ h. separator ++ part_text h) (take k gs)) (separator ++ part_text f))

list_suc : (separator : List ℕ) (fs : List FormulaTree) (k : ℕ) (f : FormulaTree) → slice_get fs (suc k) ≡ Some f
    → list_text separator (take (suc (suc k)) fs) ≡ list_text separator (take (suc k) fs) ++ (separator ++ part_text f)
list_suc separator [] k f e = absurd cc
list_suc separator (g ∷ gs) k f e =
    ap (λ t. part_text g ++ t) (each_more separator gs k f e) ∙ sym (append_assoc (part_text g) (flat_map (λ h. separator ++ part_text h) (take k gs)) (separator ++ part_text f))

-- a further part
pub list_more : (separator : List ℕ) (fs : List FormulaTree) (place : ℕ) (f : FormulaTree) → 0 < place → slice_get fs place ≡ Some f
    → list_text separator (take (place + 1) fs) ≡ list_text separator (take place fs) ++ (separator ++ part_text f)
list_more separator fs zero f h e = absurd (omega arith)
list_more separator fs (suc k) f h e =
    let next : suc k + 1 ≡ suc (suc k) = omega arith in
    ap (λ n. list_text separator (take n fs)) next ∙ list_suc separator fs k f e
