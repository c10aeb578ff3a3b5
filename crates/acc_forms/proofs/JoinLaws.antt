-- Joins: on which cycles they hold, and where a join is one of the two conditions.
use Rattle.std.proofs.Common.{◌≡◌, ◌∙◌, ℕ, ◌+◌, Bool, true, false, not, cond, drop, Some, slice_get, ◌&&◌, ◌||◌, List, [], ◌∷◌, ◌++◌, refl, sym, ap, ⊎_elim}
use Rattle.std.specs.List.{list_any, list_all}
use Rattle.std.proofs.lemmas.Bool.{cases_Bool, or_cases, and_right, or_left, or_right}
use Rattle.std.proofs.lemmas.List.{append-nil}
use Rattle.std.proofs.lemmas.List.Folds.{list_any-append, list_all-append}
use Rattle.aut_base.specs.Formula.{FormulaTree, FormulaTrees, True, False, Inf, Fin, And, Or, none, more, met, all_met, some_met, trees, formula_tree, formula_list, formula_parts}
use Rattle.aut_base.specs.declared.formula.Formula.{Formula}
use Rattle.aut_base.specs.declared.formula.Formula.TheVariants as formula
use Rattle.aut_base.specs.declared.formula.Formulas.{Formulas}
use Rattle.aut_base.proofs.trees.FormulaTrees.{formula_tree-And, formula_tree-Or}
use Rattle.acc_forms.specs.Joined.{parts_list, conjuncts, disjuncts, conj, disj}
use Rattle.acc_forms.specs.inner.Join.{joined_by, outweighs, is_all, is_neutral, parts_under, node, parts_pass}
use Rattle.acc_forms.specs.declared.join.Join.{Join}
use Rattle.acc_forms.specs.declared.join.Join.TheVariants as join
use Rattle.acc_forms.proofs.Parts.{met-all_of, met-some_of}
use Rattle.aut_base.proofs.lists.Steps.{all_more, all_not_here, any_here, any_more}
use Rattle.aut_base.proofs.numbers.Truth.{and-true, or-false}

listed-trees : (fs : List FormulaTree) → parts_list (trees fs) ≡ fs
listed-trees [] = refl
listed-trees (f ∷ fs) = ap (λ gs. f ∷ gs) (listed-trees fs)

trees-listed : (fs : FormulaTrees) → trees (parts_list fs) ≡ fs
trees-listed none = refl
trees-listed (more f fs) = ap (more f) (trees-listed fs)

-- the parts that an And or an Or contributes
pub parts_under-And : (p : Formulas) → parts_under join.All (formula_tree (formula.And p)) ≡ formula_list p
parts_under-And p = ap conjuncts (formula_tree-And p) ∙ ap (λ fs. (formula_parts p).first ∷ (formula_parts p).second ∷ fs) (listed-trees (formula_parts p).others)

pub parts_under-Or : (p : Formulas) → parts_under join.Any (formula_tree (formula.Or p)) ≡ formula_list p
parts_under-Or p = ap disjuncts (formula_tree-Or p) ∙ ap (λ fs. (formula_parts p).first ∷ (formula_parts p).second ∷ fs) (listed-trees (formula_parts p).others)

pub parts_of-And : (j : Join) (f : Formula) (p : Formulas) → j ≡ join.All → f ≡ formula.And p → parts_under j (formula_tree f) ≡ formula_list p
parts_of-And j f p all is = ap (λ i. parts_under i (formula_tree f)) all ∙ ap (λ g. conjuncts (formula_tree g)) is ∙ parts_under-And p

pub parts_of-Or : (j : Join) (f : Formula) (p : Formulas) → j ≡ join.Any → f ≡ formula.Or p → parts_under j (formula_tree f) ≡ formula_list p
parts_of-Or j f p any is = ap (λ i. parts_under i (formula_tree f)) any ∙ ap (λ g. disjuncts (formula_tree g)) is ∙ parts_under-Or p

-- the condition that absorbs any other, and the neutral one
abbrev sink : Join → FormulaTree
sink join.All = False
sink join.Any = True

abbrev neutral : Join → FormulaTree
neutral join.All = True
neutral join.Any = False

is_sink : (j : Join) (f : FormulaTree) → outweighs j f ≡ true → f ≡ sink j
is_sink join.All True h = absurd cc
is_sink join.All False h = refl
is_sink join.All (Inf set neg) h = absurd cc
is_sink join.All (Fin set neg) h = absurd cc
is_sink join.All (And a b cs) h = absurd cc
is_sink join.All (Or a b cs) h = absurd cc
is_sink join.Any True h = refl
is_sink join.Any False h = absurd cc
is_sink join.Any (Inf set neg) h = absurd cc
is_sink join.Any (Fin set neg) h = absurd cc
is_sink join.Any (And a b cs) h = absurd cc
is_sink join.Any (Or a b cs) h = absurd cc

-- a condition is neutral where it is the neutral one of the connective
is_the_neutral : (j : Join) (f : FormulaTree) → is_neutral j f ≡ true → f ≡ neutral j
is_the_neutral join.All = is_sink join.Any
is_the_neutral join.Any = is_sink join.All

-- a join, by whether one of the two absorbs the other
by_weight : (j : Join) (f g : FormulaTree) (b : Bool) → (outweighs j f || outweighs j g) ≡ b → joined_by j f g ≡ cond b (sink j) (node j (parts_under j f ++ parts_under j g))
by_weight join.All f g b h = ap (λ x. cond x False (node join.All (conjuncts f ++ conjuncts g))) h
by_weight join.Any f g b h = ap (λ x. cond x True (node join.Any (disjuncts f ++ disjuncts g))) h

-- a join that is its first condition, or its second
pub first_outweighs : (j : Join) (f g : FormulaTree) → outweighs j f ≡ true → f ≡ joined_by j f g
first_outweighs j f g h = is_sink j f h ∙ sym (by_weight j f g true (or_left (outweighs j f) (outweighs j g) h))

pub second_outweighs : (j : Join) (f g : FormulaTree) → outweighs j g ≡ true → g ≡ joined_by j f g
second_outweighs j f g h = is_sink j g h ∙ sym (by_weight j f g true (or_right (outweighs j f) (outweighs j g) h))

neutral_right : (j : Join) (f : FormulaTree) → f ≡ joined_by j f (neutral j)
neutral_right join.All True = refl
neutral_right join.All False = refl
neutral_right join.All (Inf set neg) = refl
neutral_right join.All (Fin set neg) = refl
neutral_right join.All (And a b cs) = ap (And a b) (sym (ap trees (append-nil (parts_list cs)) ∙ trees-listed cs))
neutral_right join.All (Or a b cs) = refl
neutral_right join.Any True = refl
neutral_right join.Any False = refl
neutral_right join.Any (Inf set neg) = refl
neutral_right join.Any (Fin set neg) = refl
neutral_right join.Any (And a b cs) = refl
neutral_right join.Any (Or a b cs) = ap (Or a b) (sym (ap trees (append-nil (parts_list cs)) ∙ trees-listed cs))

neutral_left : (j : Join) (g : FormulaTree) → g ≡ joined_by j (neutral j) g
neutral_left join.All True = refl
neutral_left join.All False = refl
neutral_left join.All (Inf set neg) = refl
neutral_left join.All (Fin set neg) = refl
neutral_left join.All (And a b cs) = ap (And a b) (sym (trees-listed cs))
neutral_left join.All (Or a b cs) = refl
neutral_left join.Any True = refl
neutral_left join.Any False = refl
neutral_left join.Any (Inf set neg) = refl
neutral_left join.Any (Fin set neg) = refl
neutral_left join.Any (And a b cs) = refl
neutral_left join.Any (Or a b cs) = ap (Or a b) (sym (trees-listed cs))

pub second_neutral : (j : Join) (f g : FormulaTree) → is_neutral j g ≡ true → f ≡ joined_by j f g
second_neutral j f g h = neutral_right j f ∙ ap (joined_by j f) (sym (is_the_neutral j g h))

pub first_neutral : (j : Join) (f g : FormulaTree) → is_neutral j f ≡ true → g ≡ joined_by j f g
first_neutral j f g h = neutral_left j g ∙ ap (λ x. joined_by j x g) (sym (is_the_neutral j f h))

-- parts tested one after the other, until one decides
pub pass_more : (j : Join) (p : FormulaTree → Bool) (fs : List FormulaTree) (k : ℕ) (f : FormulaTree) → slice_get fs k ≡ Some f → parts_pass j p (drop k fs) ≡ parts_pass j p fs
    → p f ≡ is_all j → parts_pass j p (drop (k + 1) fs) ≡ parts_pass j p fs
pass_more join.All = all_more
pass_more join.Any = any_more

pub decided_here : (j : Join) (p : FormulaTree → Bool) (fs : List FormulaTree) (k : ℕ) (f : FormulaTree) → slice_get fs k ≡ Some f → parts_pass j p (drop k fs) ≡ parts_pass j p fs
    → p f ≡ not (is_all j) → not (is_all j) ≡ parts_pass j p fs
decided_here join.All = all_not_here
decided_here join.Any = any_here

-- the connective on truth values
abbrev agree : Join → Bool → Bool → Bool
agree join.All a b = a && b
agree join.Any a b = a || b

module _ (cycle : List (List ℕ)) where
  met-alone : (j : Join) (f : FormulaTree) → parts_pass j (met cycle) (f ∷ []) ≡ met cycle f
  met-alone join.All f = and-true (met cycle f)
  met-alone join.Any f = or-false (met cycle f)

  met-node : (j : Join) (fs : List FormulaTree) → met cycle (node j fs) ≡ parts_pass j (met cycle) fs
  met-node join.All [] = refl
  met-node join.All (f ∷ []) = sym (met-alone join.All f)
  met-node join.All (a ∷ b ∷ cs) = met-all_of cycle a b cs
  met-node join.Any [] = refl
  met-node join.Any (f ∷ []) = sym (met-alone join.Any f)
  met-node join.Any (a ∷ b ∷ cs) = met-some_of cycle a b cs

  all-listed : (fs : FormulaTrees) → list_all (met cycle) (parts_list fs) ≡ all_met cycle fs
  all-listed none = refl
  all-listed (more f fs) = ap (λ b. met cycle f && b) (all-listed fs)

  any-listed : (fs : FormulaTrees) → list_any (met cycle) (parts_list fs) ≡ some_met cycle fs
  any-listed none = refl
  any-listed (more f fs) = ap (λ b. met cycle f || b) (any-listed fs)

  met-parts_under : (j : Join) (f : FormulaTree) → parts_pass j (met cycle) (parts_under j f) ≡ met cycle f
  met-parts_under join.All True = refl
  met-parts_under join.All False = refl
  met-parts_under join.All (Inf set neg) = met-alone join.All (Inf set neg)
  met-parts_under join.All (Fin set neg) = met-alone join.All (Fin set neg)
  met-parts_under join.All (And a b cs) = ap (λ rest. met cycle a && (met cycle b && rest)) (all-listed cs)
  met-parts_under join.All (Or a b cs) = met-alone join.All (Or a b cs)
  met-parts_under join.Any True = refl
  met-parts_under join.Any False = refl
  met-parts_under join.Any (Inf set neg) = met-alone join.Any (Inf set neg)
  met-parts_under join.Any (Fin set neg) = met-alone join.Any (Fin set neg)
  met-parts_under join.Any (And a b cs) = met-alone join.Any (And a b cs)
  met-parts_under join.Any (Or a b cs) = ap (λ rest. met cycle a || (met cycle b || rest)) (any-listed cs)

  pass-append : (j : Join) (fs gs : List FormulaTree) → parts_pass j (met cycle) (fs ++ gs) ≡ agree j (parts_pass j (met cycle) fs) (parts_pass j (met cycle) gs)
  pass-append join.All fs gs = list_all-append (met cycle) fs gs
  pass-append join.Any fs gs = list_any-append (met cycle) fs gs

  sink_first : (j : Join) (b : Bool) → agree j (met cycle (sink j)) b ≡ met cycle (sink j)
  sink_first join.All b = refl
  sink_first join.Any b = refl

  sink_second : (j : Join) (b : Bool) → agree j b (met cycle (sink j)) ≡ met cycle (sink j)
  sink_second join.All b = and_right b false refl
  sink_second join.Any b = or_right b true refl

  met-joined : (j : Join) (f g : FormulaTree) → met cycle (joined_by j f g) ≡ agree j (met cycle f) (met cycle g)
  met-joined j f g =
      ⊎_elim
      (λ yes. ap (met cycle) (by_weight j f g true yes)
      ∙ sym (⊎_elim
      (λ one. ap (λ x. agree j (met cycle x) (met cycle g)) (is_sink j f one) ∙ sink_first j (met cycle g))
      (λ one. ap (λ x. agree j (met cycle f) (met cycle x)) (is_sink j g one) ∙ sink_second j (met cycle f))
      (or_cases (outweighs j f) (outweighs j g) yes)))
      (λ no. ap (met cycle) (by_weight j f g false no)
      ∙ met-node j (parts_under j f ++ parts_under j g)
      ∙ pass-append j (parts_under j f) (parts_under j g)
      ∙ ap (λ b. agree j b (parts_pass j (met cycle) (parts_under j g))) (met-parts_under j f)
      ∙ ap (agree j (met cycle f)) (met-parts_under j g))
      (cases_Bool (outweighs j f || outweighs j g))

  pub met-conj : (f g : FormulaTree) → met cycle (conj f g) ≡ (met cycle f && met cycle g)
  met-conj = met-joined join.All

  pub met-disj : (f g : FormulaTree) → met cycle (disj f g) ≡ (met cycle f || met cycle g)
  met-disj = met-joined join.Any
