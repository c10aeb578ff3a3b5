-- Conjunction and disjunction treated alike, by the connective.
use Rattle.std.specs.Prelude.{Bool, true, false, List}
use Rattle.std.specs.List.{list_all, list_any}
use Rattle.aut_base.specs.Formula.{FormulaTree, and_of, some_of}
use Rattle.acc_forms.specs.Joined.{conj, disj, conjuncts, disjuncts, is_true, is_false}
use Rattle.acc_forms.specs.declared.join.Join.{Join}
use Rattle.acc_forms.specs.declared.join.Join.TheVariants.{All, Any}

-- the two conditions, joined by this connective
abbrev pub joined_by : Join → FormulaTree → FormulaTree → FormulaTree
joined_by All = conj
joined_by Any = disj

-- whether the condition absorbs any other that it is joined with
abbrev pub outweighs : Join → FormulaTree → Bool
outweighs All = is_false
outweighs Any = is_true

-- whether the condition is neutral
abbrev pub is_neutral : Join → FormulaTree → Bool
is_neutral All = is_true
is_neutral Any = is_false

-- the parts that the condition contributes to a join
abbrev pub parts_under : Join → FormulaTree → List FormulaTree
parts_under All = conjuncts
parts_under Any = disjuncts

-- the join of these parts
abbrev pub node : Join → List FormulaTree → FormulaTree
node All = and_of
node Any = some_of

-- whether the connective is And
abbrev pub is_all : Join → Bool
is_all All = true
is_all Any = false

-- whether all parts pass a test, under And, or one does, under Or
abbrev pub parts_pass : Join → (FormulaTree → Bool) → List FormulaTree → Bool
parts_pass All = list_all
parts_pass Any = list_any
