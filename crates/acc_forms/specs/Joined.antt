-- Conjunction and disjunction of two conditions, as flat trees.
use Rattle.std.specs.Prelude.{Bool, true, false, ◌||◌, if◌then◌else◌, List, [], ◌∷◌, ◌++◌}
use Rattle.aut_base.specs.Formula.{FormulaTree, FormulaTrees, True, False, And, Or, none, more, and_of, some_of}

-- a tree's parts after the second, as a list
abbrev pub parts_list : FormulaTrees → List FormulaTree
parts_list none = []
parts_list (more f fs) = f ∷ parts_list fs

-- the parts that a condition contributes to a conjunction: `t` none, an And its own parts, and any other itself
abbrev pub conjuncts : FormulaTree → List FormulaTree
conjuncts True = []
conjuncts (And a b cs) = a ∷ b ∷ parts_list cs
conjuncts f = f ∷ []

-- the parts that a condition contributes to a disjunction: `f` none, an Or its own parts, and any other itself
abbrev pub disjuncts : FormulaTree → List FormulaTree
disjuncts False = []
disjuncts (Or a b cs) = a ∷ b ∷ parts_list cs
disjuncts f = f ∷ []

abbrev pub is_true : FormulaTree → Bool
is_true True = true
is_true f = false

abbrev pub is_false : FormulaTree → Bool
is_false False = true
is_false f = false

-- The conjunction. Law: it holds on a cycle exactly where both conditions do.
abbrev pub conj : FormulaTree → FormulaTree → FormulaTree
conj f g = if is_false f || is_false g then False else and_of (conjuncts f ++ conjuncts g)

-- The disjunction. Law: it holds on a cycle exactly where one of the conditions does.
abbrev pub disj : FormulaTree → FormulaTree → FormulaTree
disj f g = if is_true f || is_true g then True else some_of (disjuncts f ++ disjuncts g)
