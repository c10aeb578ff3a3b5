-- The terms of a condition's disjunctive normal form, their number and size, and the condition of given terms.
use Rattle.std.specs.Prelude.{ℕ, max, length, Bool, List, [], ◌∷◌, ◌++◌, map}
use Rattle.std.specs.Int.{div_ceil}
use Rattle.std.specs.List.{list_any, list_all, flat_map, fold, sum_by}
use Rattle.aut_base.specs.Formula.{FormulaTree, FormulaTrees, True, False, And, Or, none, more, met}
use Rattle.acc_forms.specs.Joined.{conj, disj}
use Rattle.acc_forms.specs.declared.literal.Literal.{Literal}
use Rattle.acc_forms.specs.declared.literal.Literal.TheVariants.{Inf, Fin}

-- the atom, as a condition
abbrev pub literal_formula : Literal → FormulaTree
literal_formula (Inf set neg) = FormulaTree.Inf set neg
literal_formula (Fin set neg) = FormulaTree.Fin set neg

-- whether all atoms of some term hold on the cycle
abbrev pub some_term_met : List (List ℕ) → List (List Literal) → Bool
some_term_met cycle terms = list_any (λ term. list_all (λ literal. met cycle (literal_formula literal)) term) terms

-- each term of the first list joined with each of the second; the term of the first varies slowest
abbrev pub pairs : List (List Literal) → List (List Literal) → List (List Literal)
pairs firsts seconds = flat_map (λ first. map (λ second. first ++ second) seconds) firsts

-- all choices of one term from each of these lists, joined
abbrev pub choices : List (List (List Literal)) → List (List Literal)
choices [] = [] ∷ []
choices (terms ∷ rest) = pairs terms (choices rest)

-- The terms of a condition, none merged or dropped. Law: the condition holds on a cycle exactly where all atoms of some term do.
abbrev mutual
  pub terms : FormulaTree → List (List Literal)
  terms True = [] ∷ []
  terms False = []
  terms (FormulaTree.Inf set neg) = (Inf set neg ∷ []) ∷ []
  terms (FormulaTree.Fin set neg) = (Fin set neg ∷ []) ∷ []
  terms (And a b cs) = choices (terms a ∷ terms b ∷ each_terms cs)
  terms (Or a b cs) = flat_map (λ those. those) (terms a ∷ terms b ∷ each_terms cs)

  pub each_terms : FormulaTrees → List (List (List Literal))
  each_terms none = []
  each_terms (more f fs) = terms f ∷ each_terms fs

-- how many literals these terms have together
abbrev pub literals : List (List Literal) → ℕ
literals terms = sum_by length terms

-- the size of these terms: their number, or that of their literals divided by 1,024 and rounded up, whichever is more
abbrev pub count : List (List Literal) → ℕ
count terms = max (length terms) (div_ceil (literals terms) 1024)

-- the conjunction of a term's literals
abbrev pub of_term : List Literal → FormulaTree
of_term literals = fold (λ f literal. conj f (literal_formula literal)) True literals

-- The disjunction of these terms. Law: it holds on a cycle exactly where all atoms of some term do.
abbrev pub of_terms : List (List Literal) → FormulaTree
of_terms terms = fold (λ f term. disj f (of_term term)) False terms
