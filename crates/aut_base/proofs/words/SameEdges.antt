-- Two cycles with the same set of edges meet the same conditions.
use Rattle.std.proofs.Common.{◌≡◌, ◌∙◌, ℕ, ◌<◌, Bool, true, false, not, List, ◌++◌, map, take, drop, refl, sym}
use Rattle.std.specs.List.{list_any, list_all}
use Rattle.std.proofs.lemmas.List.Folds.{list_all-map}
use Rattle.aut_base.specs.Formula.{FormulaTree, FormulaTrees, met, all_met, some_met}
use Rattle.aut_base.specs.Marks.{is_in}
use Rattle.aut_base.specs.Word.{copies}
use Rattle.aut_base.proofs.lists.Copies.{any-copies, all-copies}
use Rattle.aut_base.proofs.lists.Lists.{list_any-map, list_any-turned, list_all-turned}

-- the two lists pass the same tests, of some item and of all
pub record Alike {A : Type 0} (xs ys : List A) : Type 0 where
  pub some : (p : A → Bool) → list_any p xs ≡ list_any p ys
  pub each : (p : A → Bool) → list_all p xs ≡ list_all p ys

mutual
  pub met_alike : (xs ys : List (List ℕ)) → Alike xs ys → (f : FormulaTree) → met xs f ≡ met ys f
  met_alike xs ys alike FormulaTree.True = refl
  met_alike xs ys alike FormulaTree.False = refl
  met_alike xs ys alike (FormulaTree.Inf set false) = alike.some (is_in set)
  met_alike xs ys alike (FormulaTree.Inf set true) = alike.some (λ marks. not (is_in set marks))
  met_alike xs ys alike (FormulaTree.Fin set false) = alike.each (λ marks. not (is_in set marks))
  met_alike xs ys alike (FormulaTree.Fin set true) = alike.each (is_in set)
  met_alike xs ys alike (FormulaTree.And f g fs) = cc (met_alike xs ys alike f, met_alike xs ys alike g, all_alike xs ys alike fs)
  met_alike xs ys alike (FormulaTree.Or f g fs) = cc (met_alike xs ys alike f, met_alike xs ys alike g, some_alike xs ys alike fs)

  all_alike : (xs ys : List (List ℕ)) → Alike xs ys → (fs : FormulaTrees) → all_met xs fs ≡ all_met ys fs
  all_alike xs ys alike FormulaTrees.none = refl
  all_alike xs ys alike (FormulaTrees.more f fs) = cc (met_alike xs ys alike f, all_alike xs ys alike fs)

  some_alike : (xs ys : List (List ℕ)) → Alike xs ys → (fs : FormulaTrees) → some_met xs fs ≡ some_met ys fs
  some_alike xs ys alike FormulaTrees.none = refl
  some_alike xs ys alike (FormulaTrees.more f fs) = cc (met_alike xs ys alike f, some_alike xs ys alike fs)

-- a cycle, repeated k times
pub gone_alike : {A B : Type 0} (f : A → B) (k : ℕ) (cycle : List A) → 0 < k → Alike (map f (copies k cycle)) (map f cycle)
gone_alike f k cycle some = record {
  some = λ p. list_any-map p f _ ∙ (any-copies (λ x. p (f x)) k cycle some ∙ sym (list_any-map p f cycle));
  each = λ p. list_all-map p f _ ∙ (all-copies (λ x. p (f x)) k cycle some ∙ sym (list_all-map p f cycle));
}

-- the same, rotated to begin at another of its edges
pub turned_alike : {A B : Type 0} (f : A → B) (k n : ℕ) (cycle : List A) → 0 < k → Alike (map f (drop n (copies k cycle) ++ take n (copies k cycle))) (map f cycle)
turned_alike f k n cycle some = record {
  some = λ p. list_any-map p f _ ∙ (list_any-turned (λ x. p (f x)) n (copies k cycle) ∙ (any-copies (λ x. p (f x)) k cycle some ∙ sym (list_any-map p f cycle)));
  each = λ p. list_all-map p f _ ∙ (list_all-turned (λ x. p (f x)) n (copies k cycle) ∙ (all-copies (λ x. p (f x)) k cycle some ∙ sym (list_all-map p f cycle)));
}
