-- The acceptance sets that occur in conditions made of others.
use Rattle.std.proofs.Common.{◌+◌, ◌≤◌, ◌||◌, ℕ, Bool, true, false, cond, List, [], ◌∷◌, ◌++◌, arith}
use Rattle.std.specs.List.{AllByRecursion}
use Rattle.acc_forms.specs.Joined.{conj, conjuncts, disj, disjuncts, is_false, is_true, parts_list}
use Rattle.acc_forms.specs.Shift.{shift, shifts}
use Rattle.aut_base.proofs.lists.AllByRecursion.{AllByRecursion-append}
use Rattle.aut_base.specs.Formula.{And, EachSetsBelow, False, Fin, FormulaTree, FormulaTrees, Inf, Or, SetsBelow, True, and_of, more, none, some_of, trees}

mutual
  pub sets_weaker : (m n : ℕ) → m ≤ n → (f : FormulaTree) → SetsBelow m f → SetsBelow n f
  sets_weaker m n le True below = tt
  sets_weaker m n le False below = tt
  sets_weaker m n le (Inf set neg) below = omega (arith, below, le)
  sets_weaker m n le (Fin set neg) below = omega (arith, below, le)
  sets_weaker m n le (And f g fs) below = (sets_weaker m n le f below.0, sets_weaker m n le g below.1, each_weaker m n le fs below.2)
  sets_weaker m n le (Or f g fs) below = (sets_weaker m n le f below.0, sets_weaker m n le g below.1, each_weaker m n le fs below.2)

  each_weaker : (m n : ℕ) → m ≤ n → (fs : FormulaTrees) → EachSetsBelow m fs → EachSetsBelow n fs
  each_weaker m n le none below = tt
  each_weaker m n le (more f fs) below = (sets_weaker m n le f below.0, each_weaker m n le fs below.1)

mutual
  pub sets_shift : (k m n : ℕ) → m + k ≤ n → (f : FormulaTree) → SetsBelow m f → SetsBelow n (shift k f)
  sets_shift k m n le True below = tt
  sets_shift k m n le False below = tt
  sets_shift k m n le (Inf set neg) below = omega (arith, below, le)
  sets_shift k m n le (Fin set neg) below = omega (arith, below, le)
  sets_shift k m n le (And f g fs) below = (sets_shift k m n le f below.0, sets_shift k m n le g below.1, each_shift k m n le fs below.2)
  sets_shift k m n le (Or f g fs) below = (sets_shift k m n le f below.0, sets_shift k m n le g below.1, each_shift k m n le fs below.2)

  each_shift : (k m n : ℕ) → m + k ≤ n → (fs : FormulaTrees) → EachSetsBelow m fs → EachSetsBelow n (shifts k fs)
  each_shift k m n le none below = tt
  each_shift k m n le (more f fs) below = (sets_shift k m n le f below.0, each_shift k m n le fs below.1)

each_listed : (n : ℕ) (fs : FormulaTrees) → EachSetsBelow n fs → AllByRecursion (SetsBelow n) (parts_list fs)
each_listed n none below = tt
each_listed n (more f fs) below = (below.0, each_listed n fs below.1)

each_trees : (n : ℕ) (fs : List FormulaTree) → AllByRecursion (SetsBelow n) fs → EachSetsBelow n (trees fs)
each_trees n [] below = tt
each_trees n (f ∷ fs) below = (below.0, each_trees n fs below.1)

pub sets_all_of : (n : ℕ) (fs : List FormulaTree) → AllByRecursion (SetsBelow n) fs → SetsBelow n (and_of fs)
sets_all_of n [] below = tt
sets_all_of n (f ∷ []) below = below.0
sets_all_of n (f ∷ g ∷ fs) below = (below.0, below.1.0, each_trees n fs below.1.1)

pub sets_some_of : (n : ℕ) (fs : List FormulaTree) → AllByRecursion (SetsBelow n) fs → SetsBelow n (some_of fs)
sets_some_of n [] below = tt
sets_some_of n (f ∷ []) below = below.0
sets_some_of n (f ∷ g ∷ fs) below = (below.0, below.1.0, each_trees n fs below.1.1)

pub sets_conjuncts : (n : ℕ) (f : FormulaTree) → SetsBelow n f → AllByRecursion (SetsBelow n) (conjuncts f)
sets_conjuncts n True below = tt
sets_conjuncts n False below = (tt, tt)
sets_conjuncts n (Inf set neg) below = (below, tt)
sets_conjuncts n (Fin set neg) below = (below, tt)
sets_conjuncts n (And f g fs) below = (below.0, (below.1, each_listed n fs below.2))
sets_conjuncts n (Or f g fs) below = (below, tt)

pub sets_disjuncts : (n : ℕ) (f : FormulaTree) → SetsBelow n f → AllByRecursion (SetsBelow n) (disjuncts f)
sets_disjuncts n True below = (tt, tt)
sets_disjuncts n False below = tt
sets_disjuncts n (Inf set neg) below = (below, tt)
sets_disjuncts n (Fin set neg) below = (below, tt)
sets_disjuncts n (And f g fs) below = (below, tt)
sets_disjuncts n (Or f g fs) below = (below.0, (below.1, each_listed n fs below.2))

sets_either : (n : ℕ) (b : Bool) (f g : FormulaTree) → SetsBelow n f → SetsBelow n g → SetsBelow n (cond b f g)
sets_either n true f g one two = one
sets_either n false f g one two = two

pub sets_conj : (n : ℕ) (f g : FormulaTree) → SetsBelow n f → SetsBelow n g → SetsBelow n (conj f g)
sets_conj n f g one two =
    let parts = AllByRecursion-append (SetsBelow n) (conjuncts f) (conjuncts g) (sets_conjuncts n f one) (sets_conjuncts n g two) in
    sets_either n (is_false f || is_false g) False (and_of (conjuncts f ++ conjuncts g)) tt (sets_all_of n (conjuncts f ++ conjuncts g) parts)

pub sets_disj : (n : ℕ) (f g : FormulaTree) → SetsBelow n f → SetsBelow n g → SetsBelow n (disj f g)
sets_disj n f g one two =
    let parts = AllByRecursion-append (SetsBelow n) (disjuncts f) (disjuncts g) (sets_disjuncts n f one) (sets_disjuncts n g two) in
    sets_either n (is_true f || is_true g) True (some_of (disjuncts f ++ disjuncts g)) tt (sets_some_of n (disjuncts f ++ disjuncts g) parts)
