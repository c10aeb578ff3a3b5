-- Acceptance conditions as trees, which cycles meet them (HOA v1, Acceptance), and the tree of a condition in memory.
use Rattle.std.specs.Prelude.{◌+◌, ◌<◌, ℕ, Bool, true, false, not, ◌&&◌, ◌||◌, List, [], ◌∷◌}
use Rattle.std.specs.List.{list_any, list_all}
use Rattle.aut_base.specs.Marks.{is_in}
use Rattle.aut_base.specs.declared.formula.Formula.{Formula}
use Rattle.aut_base.specs.declared.formula.Formula.TheOpen.{Formula-F}
use Rattle.aut_base.specs.declared.formula.Formula.TheFolds.{fold-Formula, fold-Formulas}
use Rattle.aut_base.specs.declared.formula.Formulas.{Formulas}

-- an Emerson-Lei condition over numbered acceptance sets; a conjunction or disjunction has two parts or more
mutual
  pub data FormulaTree : Type 0 where
    True : FormulaTree
    False : FormulaTree
    -- the set, and whether `!` is before it
    Inf : ℕ → Bool → FormulaTree
    Fin : ℕ → Bool → FormulaTree
    And : FormulaTree → FormulaTree → FormulaTrees → FormulaTree
    Or : FormulaTree → FormulaTree → FormulaTrees → FormulaTree

  pub data FormulaTrees : Type 0 where
    none : FormulaTrees
    more : FormulaTree → FormulaTrees → FormulaTrees

-- Whether a condition is met by a run whose edges that occur infinitely often are those of a cycle, given by the
-- marks of each. `Inf(n)`: some edge is in n. `Inf(!n)`: some edge isn't. `Fin(n)`: none is. `Fin(!n)`: all are.
abbrev mutual
  pub met : List (List ℕ) → FormulaTree → Bool
  met cycle True = true
  met cycle False = false
  met cycle (Inf set false) = list_any (is_in set) cycle
  met cycle (Inf set true) = list_any (λ marks. not (is_in set marks)) cycle
  met cycle (Fin set false) = list_all (λ marks. not (is_in set marks)) cycle
  met cycle (Fin set true) = list_all (is_in set) cycle
  met cycle (And a b cs) = met cycle a && (met cycle b && all_met cycle cs)
  met cycle (Or a b cs) = met cycle a || (met cycle b || some_met cycle cs)

  pub all_met : List (List ℕ) → FormulaTrees → Bool
  all_met cycle none = true
  all_met cycle (more f fs) = met cycle f && all_met cycle fs

  pub some_met : List (List ℕ) → FormulaTrees → Bool
  some_met cycle none = false
  some_met cycle (more f fs) = met cycle f || some_met cycle fs

-- Every set that the condition names is below n.
abbrev mutual
  pub SetsBelow : ℕ → FormulaTree → Type 0
  SetsBelow n True = Unit {0}
  SetsBelow n False = Unit {0}
  SetsBelow n (Inf set neg) = set < n
  SetsBelow n (Fin set neg) = set < n
  SetsBelow n (And a b cs) = SetsBelow n a × SetsBelow n b × EachSetsBelow n cs
  SetsBelow n (Or a b cs) = SetsBelow n a × SetsBelow n b × EachSetsBelow n cs

  pub EachSetsBelow : ℕ → FormulaTrees → Type 0
  EachSetsBelow n none = Unit {0}
  EachSetsBelow n (more f fs) = SetsBelow n f × EachSetsBelow n fs

-- The number of nodes of a condition's tree, a measure for recursion over its parts.
abbrev mutual
  pub formula_size : FormulaTree → ℕ
  formula_size True = 1
  formula_size False = 1
  formula_size (Inf set neg) = 1
  formula_size (Fin set neg) = 1
  formula_size (And a b cs) = 1 + (formula_size a + (formula_size b + formulas_size cs))
  formula_size (Or a b cs) = 1 + (formula_size a + (formula_size b + formulas_size cs))

  pub formulas_size : FormulaTrees → ℕ
  formulas_size none = 0
  formulas_size (more f fs) = formula_size f + formulas_size fs

-- the list of parts, in the type that trees have for it
abbrev pub trees : List FormulaTree → FormulaTrees
trees [] = none
trees (f ∷ fs) = more f (trees fs)

-- the conjunction of these parts, which is an And where they are two or more
abbrev pub and_of : List FormulaTree → FormulaTree
and_of [] = True
and_of (f ∷ []) = f
and_of (a ∷ b ∷ cs) = And a b (trees cs)

-- the disjunction of these parts, which is an Or where they are two or more
abbrev pub some_of : List FormulaTree → FormulaTree
some_of [] = False
some_of (f ∷ []) = f
some_of (a ∷ b ∷ cs) = Or a b (trees cs)

-- the parts of a conjunction or disjunction
pub record FormulaParts : Type 0 where
  pub first : FormulaTree
  pub second : FormulaTree
  pub others : List FormulaTree

-- one level of a formula, whose parts are given as trees
abbrev pub formula_step : Formula-F FormulaTree FormulaParts → FormulaTree
formula_step Formula-F.True = True
formula_step Formula-F.False = False
formula_step (Formula-F.Inf set neg) = Inf set neg
formula_step (Formula-F.Fin set neg) = Fin set neg
formula_step (Formula-F.And p) = And p.first p.second (trees p.others)
formula_step (Formula-F.Or p) = Or p.first p.second (trees p.others)

-- the tree of a formula
abbrev pub formula_tree : Formula → FormulaTree
formula_tree = fold-Formula FormulaTree FormulaParts formula_step (λ fs. record { first = fs.first.value; second = fs.second.value; others = fs.others.items })

-- the parts of a conjunction or disjunction
abbrev pub formula_parts : Formulas → FormulaParts
formula_parts = fold-Formulas FormulaTree FormulaParts formula_step (λ fs. record { first = fs.first.value; second = fs.second.value; others = fs.others.items })

-- the same as one list, of two parts or more
abbrev pub formula_list : Formulas → List FormulaTree
formula_list fs = (formula_parts fs).first ∷ (formula_parts fs).second ∷ (formula_parts fs).others
