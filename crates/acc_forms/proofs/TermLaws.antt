-- A condition holds exactly where one of its terms does, and the condition of given terms exactly where one of them does.
use Rattle.std.proofs.Common.{◌≡◌, ◌∙◌, ℕ, Bool, true, ◌&&◌, ◌||◌, List, [], ◌∷◌, map, refl, sym, ap}
use Rattle.std.specs.List.{list_all, flat_map, fold}
use Rattle.std.proofs.lemmas.List.Folds.{list_any-append, flat_map-map}
use Rattle.aut_base.specs.Formula.{FormulaTree, FormulaTrees, True, False, Inf, Fin, And, Or, none, more, met, all_met, some_met, trees, formula_tree, formula_list, formula_parts}
use Rattle.aut_base.specs.declared.formula.Formula.TheVariants as formula
use Rattle.aut_base.specs.declared.formula.Formulas.{Formulas}
use Rattle.aut_base.proofs.trees.FormulaTrees.{formula_tree-And, formula_tree-Or}
use Rattle.acc_forms.specs.Joined.{conj, disj}
use Rattle.acc_forms.specs.Terms.{terms, each_terms, choices, literal_formula, some_term_met, of_term, of_terms}
use Rattle.acc_forms.specs.declared.literal.Literal.{Literal}
use Rattle.acc_forms.proofs.JoinLaws.{met-conj, met-disj}
use Rattle.acc_forms.proofs.TermLists.{any-pairs}
use Rattle.aut_base.proofs.numbers.Truth.{and-true, or-false}
use Rattle.std.proofs.Math.Bool.{and_assoc, or_assoc}

abbrev holds : List (List ℕ) → Literal → Bool
holds cycle literal = met cycle (literal_formula literal)

module _ (cycle : List (List ℕ)) where
  mutual
    pub met-terms : (f : FormulaTree) → met cycle f ≡ some_term_met cycle (terms f)
    met-terms True = refl
    met-terms False = refl
    met-terms (Inf set neg) = sym (or-false (met cycle (Inf set neg) && true) ∙ and-true (met cycle (Inf set neg)))
    met-terms (Fin set neg) = sym (or-false (met cycle (Fin set neg) && true) ∙ and-true (met cycle (Fin set neg)))
    met-terms (And a b cs) =
        ap (λ x. x && (met cycle b && all_met cycle cs)) (met-terms a)
        ∙ ap (λ x. some_term_met cycle (terms a) && x) (ap (λ x. x && all_met cycle cs) (met-terms b) ∙ ap (λ x. some_term_met cycle (terms b) && x) (all_met-choices cs)
        ∙ sym (any-pairs (holds cycle) (terms b) (choices (each_terms cs))))
        ∙ sym (any-pairs (holds cycle) (terms a) (choices (terms b ∷ each_terms cs)))
    met-terms (Or a b cs) =
        ap (λ x. x || (met cycle b || some_met cycle cs)) (met-terms a)
        ∙ ap (λ x. some_term_met cycle (terms a) || x) (ap (λ x. x || some_met cycle cs) (met-terms b) ∙ ap (λ x. some_term_met cycle (terms b) || x) (some_met-each cs)
        ∙ sym (list_any-append (list_all (holds cycle)) (terms b) (flat_map (λ those. those) (each_terms cs))))
        ∙ sym (list_any-append (list_all (holds cycle)) (terms a) (flat_map (λ those. those) (terms b ∷ each_terms cs)))

    all_met-choices : (fs : FormulaTrees) → all_met cycle fs ≡ some_term_met cycle (choices (each_terms fs))
    all_met-choices none = refl
    all_met-choices (more f fs) =
        ap (λ x. x && all_met cycle fs) (met-terms f) ∙ ap (λ x. some_term_met cycle (terms f) && x) (all_met-choices fs)
        ∙ sym (any-pairs (holds cycle) (terms f) (choices (each_terms fs)))

    some_met-each : (fs : FormulaTrees) → some_met cycle fs ≡ some_term_met cycle (flat_map (λ those. those) (each_terms fs))
    some_met-each none = refl
    some_met-each (more f fs) =
        ap (λ x. x || some_met cycle fs) (met-terms f) ∙ ap (λ x. some_term_met cycle (terms f) || x) (some_met-each fs)
        ∙ sym (list_any-append (list_all (holds cycle)) (terms f) (flat_map (λ those. those) (each_terms fs)))

-- a condition to which a term's literals are joined one by one
met-fold_conj : (cycle : List (List ℕ)) (f : FormulaTree) (literals : List Literal)
    → met cycle (fold (λ g literal. conj g (literal_formula literal)) f literals) ≡ (met cycle f && list_all (holds cycle) literals)
met-fold_conj cycle f [] = sym (and-true (met cycle f))
met-fold_conj cycle f (l ∷ ls) =
    met-fold_conj cycle (conj f (literal_formula l)) ls
    ∙ ap (λ b. b && list_all (holds cycle) ls) (met-conj cycle f (literal_formula l))
    ∙ and_assoc (met cycle f) (met cycle (literal_formula l)) (list_all (holds cycle) ls)

met-of_term : (cycle : List (List ℕ)) (literals : List Literal) → met cycle (of_term literals) ≡ list_all (holds cycle) literals
met-of_term cycle literals = met-fold_conj cycle True literals

met-fold_disj : (cycle : List (List ℕ)) (f : FormulaTree) (ts : List (List Literal)) → met cycle (fold (λ g term. disj g (of_term term)) f ts) ≡ (met cycle f || some_term_met cycle ts)
met-fold_disj cycle f [] = sym (or-false (met cycle f))
met-fold_disj cycle f (t ∷ ts) =
    met-fold_disj cycle (disj f (of_term t)) ts
    ∙ ap (λ b. b || some_term_met cycle ts) (met-disj cycle f (of_term t) ∙ ap (λ b. met cycle f || b) (met-of_term cycle t))
    ∙ or_assoc (met cycle f) (list_all (holds cycle) t) (some_term_met cycle ts)

pub met-of_terms : (cycle : List (List ℕ)) (ts : List (List Literal)) → met cycle (of_terms ts) ≡ some_term_met cycle ts
met-of_terms cycle ts = met-fold_disj cycle False ts

-- the terms of a conjunction and a disjunction, by the list of its parts
each_terms-trees : (fs : List FormulaTree) → each_terms (trees fs) ≡ map terms fs
each_terms-trees [] = refl
each_terms-trees (f ∷ fs) = ap (λ ts. terms f ∷ ts) (each_terms-trees fs)

pub terms-And : (p : Formulas) → terms (formula_tree (formula.And p)) ≡ choices (map terms (formula_list p))
terms-And p = ap terms (formula_tree-And p) ∙ ap (λ ts. choices (terms (formula_parts p).first ∷ terms (formula_parts p).second ∷ ts)) (each_terms-trees (formula_parts p).others)

pub terms-Or : (p : Formulas) → terms (formula_tree (formula.Or p)) ≡ flat_map terms (formula_list p)
terms-Or p =
    ap terms (formula_tree-Or p)
    ∙ ap (λ ts. flat_map (λ those. those) (terms (formula_parts p).first ∷ terms (formula_parts p).second ∷ ts)) (each_terms-trees (formula_parts p).others)
    ∙ flat_map-map (λ those. those) terms (formula_list p)
