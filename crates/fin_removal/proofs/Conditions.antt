-- What holds of all literals holds of the condition that is their disjunction of conjunctions.
use Rattle.std.proofs.Common.{◌≡◌, ℕ, false, ◌||◌, List, [], ◌∷◌, ◌++◌, refl}
use Rattle.std.specs.List.{AllByRecursion, fold}
use Rattle.std.proofs.lemmas.Bool.{cond_both, or_from, or_parts}
use Rattle.aut_base.proofs.lists.AllByRecursion.{AllByRecursion-append}
use Rattle.aut_base.specs.Formula.{FormulaTree, FormulaTrees, True, False, Inf, Fin, And, Or, none, more, SetsBelow, trees, and_of, some_of}
use Rattle.acc_forms.proofs.FormulaSets.{sets_all_of, sets_conjuncts, sets_disjuncts, sets_some_of}
use Rattle.acc_forms.specs.Atoms.{has_fin, some_fin}
use Rattle.acc_forms.specs.Joined.{conj, conjuncts, disj, disjuncts, is_false, is_true, parts_list}
use Rattle.acc_forms.specs.Terms.{literal_formula, of_term, of_terms}
use Rattle.acc_forms.specs.declared.literal.Literal.{Literal}

-- it holds of a condition where it holds of the parts
pub record HoldsOfParts (P : FormulaTree → Type 0) : Type 0 where
  pub never : P False
  pub always : P True
  pub conjuncts : (f : FormulaTree) → P f → AllByRecursion P (conjuncts f)
  pub all : (fs : List FormulaTree) → AllByRecursion P fs → P (and_of fs)
  pub disjuncts : (f : FormulaTree) → P f → AllByRecursion P (disjuncts f)
  pub some : (fs : List FormulaTree) → AllByRecursion P fs → P (some_of fs)

module _ (P : FormulaTree → Type 0) (parts : HoldsOfParts P) where
  conj_holds : (f g : FormulaTree) → P f → P g → P (conj f g)
  conj_holds f g p q = cond_both (is_false f || is_false g) False (and_of (conjuncts f ++ conjuncts g)) P (λ e. parts.never)
      (λ e. parts.all (conjuncts f ++ conjuncts g) (AllByRecursion-append P (conjuncts f) (conjuncts g) (parts.conjuncts f p) (parts.conjuncts g q)))

  disj_holds : (f g : FormulaTree) → P f → P g → P (disj f g)
  disj_holds f g p q = cond_both (is_true f || is_true g) True (some_of (disjuncts f ++ disjuncts g)) P (λ e. parts.always)
      (λ e. parts.some (disjuncts f ++ disjuncts g) (AllByRecursion-append P (disjuncts f) (disjuncts g) (parts.disjuncts f p) (parts.disjuncts g q)))

  fold_conj : (f : FormulaTree) (ls : List Literal) → P f → AllByRecursion (λ l. P (literal_formula l)) ls → P (fold (λ g literal. conj g (literal_formula literal)) f ls)
  fold_conj f [] p each = p
  fold_conj f (l ∷ ls) p each = fold_conj (conj f (literal_formula l)) ls (conj_holds f (literal_formula l) p each.0) each.1

  fold_disj : (f : FormulaTree) (ts : List (List Literal)) → P f → AllByRecursion (λ term. AllByRecursion (λ l. P (literal_formula l)) term) ts → P (fold (λ g term. disj g (of_term term)) f ts)
  fold_disj f [] p each = p
  fold_disj f (t ∷ ts) p each = fold_disj (disj f (of_term t)) ts (disj_holds f (of_term t) p (fold_conj True t parts.always each.0)) each.1

  pub of_terms_holds : (ts : List (List Literal)) → AllByRecursion (λ term. AllByRecursion (λ l. P (literal_formula l)) term) ts → P (of_terms ts)
  of_terms_holds ts each = fold_disj False ts parts.never each

-- all sets are below n
pub below_parts : (n : ℕ) → HoldsOfParts (SetsBelow n)
below_parts n = record { never = tt; always = tt; conjuncts = sets_conjuncts n; all = sets_all_of n; disjuncts = sets_disjuncts n; some = sets_some_of n }

-- there is no Fin
abbrev pub HasNoFin : FormulaTree → Type 0
HasNoFin f = has_fin f ≡ false

listed_no_fin : (fs : FormulaTrees) → some_fin fs ≡ false → AllByRecursion HasNoFin (parts_list fs)
listed_no_fin none h = tt
listed_no_fin (more f fs) h = let both = or_parts (has_fin f) (some_fin fs) h in (both.0, listed_no_fin fs both.1)

trees_no_fin : (fs : List FormulaTree) → AllByRecursion HasNoFin fs → some_fin (trees fs) ≡ false
trees_no_fin [] h = refl
trees_no_fin (f ∷ fs) h = or_from (has_fin f) (some_fin (trees fs)) h.0 (trees_no_fin fs h.1)

no_fin_parts_of : (a b : FormulaTree) (cs : FormulaTrees) → (has_fin a || (has_fin b || some_fin cs)) ≡ false → AllByRecursion HasNoFin (a ∷ b ∷ parts_list cs)
no_fin_parts_of a b cs h =
    let first = or_parts (has_fin a) (has_fin b || some_fin cs) h in
    let second = or_parts (has_fin b) (some_fin cs) first.1 in
    (first.0, (second.0, listed_no_fin cs second.1))

no_fin_conjuncts : (f : FormulaTree) → HasNoFin f → AllByRecursion HasNoFin (conjuncts f)
no_fin_conjuncts True h = tt
no_fin_conjuncts False h = (h, tt)
no_fin_conjuncts (Inf set neg) h = (h, tt)
no_fin_conjuncts (Fin set neg) h = (h, tt)
no_fin_conjuncts (And a b cs) h = no_fin_parts_of a b cs h
no_fin_conjuncts (Or a b cs) h = (h, tt)

no_fin_disjuncts : (f : FormulaTree) → HasNoFin f → AllByRecursion HasNoFin (disjuncts f)
no_fin_disjuncts True h = (h, tt)
no_fin_disjuncts False h = tt
no_fin_disjuncts (Inf set neg) h = (h, tt)
no_fin_disjuncts (Fin set neg) h = (h, tt)
no_fin_disjuncts (And a b cs) h = (h, tt)
no_fin_disjuncts (Or a b cs) h = no_fin_parts_of a b cs h

no_fin_all : (fs : List FormulaTree) → AllByRecursion HasNoFin fs → HasNoFin (and_of fs)
no_fin_all [] h = refl
no_fin_all (f ∷ []) h = h.0
no_fin_all (a ∷ b ∷ cs) h = or_from (has_fin a) (has_fin b || some_fin (trees cs)) h.0 (or_from (has_fin b) (some_fin (trees cs)) h.1.0 (trees_no_fin cs h.1.1))

no_fin_some : (fs : List FormulaTree) → AllByRecursion HasNoFin fs → HasNoFin (some_of fs)
no_fin_some [] h = refl
no_fin_some (f ∷ []) h = h.0
no_fin_some (a ∷ b ∷ cs) h = or_from (has_fin a) (has_fin b || some_fin (trees cs)) h.0 (or_from (has_fin b) (some_fin (trees cs)) h.1.0 (trees_no_fin cs h.1.1))

pub no_fin_parts : HoldsOfParts HasNoFin
no_fin_parts = record { never = refl; always = refl; conjuncts = no_fin_conjuncts; all = no_fin_all; disjuncts = no_fin_disjuncts; some = no_fin_some }
