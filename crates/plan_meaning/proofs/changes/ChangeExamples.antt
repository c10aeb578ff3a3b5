-- The worked examples of the set operation.
use Rattle.std.proofs.Common.{◌≡◌, ◌∙◌, ◌⊎◌, ℕ, zero, suc, ◌-◌, ◌%◌, ◌<◌, ◌≤◌, Bool, true, false, if◌then◌else◌, nat_lt, refl, sym, ap, subst, lit<}
use Rattle.std.proofs.Common.{List, ◌∷◌, [], ◌++◌, length, None, Some, slice_get, inl, inr, arith, append-nil}
use Rattle.std.specs.FinSet as set
use Rattle.std.proofs.lemmas.Bool.{false≢true}
use Rattle.std.proofs.lemmas.Cmp.{nat_list_cmp_total}
use Rattle.std.proofs.lemmas.Option.{none-some, same_Some}
use Rattle.ap_project.proofs.Letters.{SameBut, but_including}
use Rattle.ap_project.specs.Hiding.{AgreeOff, SomeWord}
use Rattle.aut_base.proofs.runs.Examples.{on_a, worked_examples}
use Rattle.aut_base.proofs.runs.OneState.{marks_if, one_state_accepts}
use Rattle.aut_base.proofs.words.Turns.{covers, letter_in}
use Rattle.aut_base.specs.Acceptance.{Accepts}
use Rattle.aut_base.specs.Examples.{again, name_a, off, on}
use Rattle.aut_base.specs.Formula.{FormulaTree, met}
use Rattle.aut_base.specs.Word.{NameSet, copies, letter_at}
use Rattle.plan_meaning.specs.ChangeExamples.{ChangeExamples}

neither : {A B : Type 0} → (A → ⊥) → (B → ⊥) → A ⊎ B → ⊥
neither a b (inl h) = a h
neither a b (inr h) = b h

-- ---- hiding

removed : set.contains (set.remove on name_a) name_a ≡ false
removed = set.contains-remove nat_list_cmp_total on name_a name_a

absent_on : Accepts again [] (set.remove on name_a ∷ []) → ⊥
absent_on r = false≢true (sym (ap (λ b. met (marks_if (0 ∷ []) [] b ∷ []) (FormulaTree.Inf 0 false)) removed)
    ∙ (one_state_accepts (0 ∷ []) [] 1 (FormulaTree.Inf 0 false) [] (set.remove on name_a ∷ []) r.endless).0 r)

-- the only letter of a cycle
only : (x : NameSet) (n : ℕ) (y : NameSet) → letter_at [] (x ∷ []) n ≡ Some y → y ≡ x
only x n y is = go (nat_lt n 0) ((n - 0) % 1) is
  where
    go : (b : Bool) (k : ℕ) → (if b then None else slice_get (x ∷ []) k) ≡ Some y → y ≡ x
    go true k is = absurd (none-some y is)
    go false zero is = sym (same_Some x y is)
    go false (suc k) is = absurd (none-some y is)

agree : AgreeOff name_a [] (off ∷ []) [] (on ∷ [])
agree n x y first second =
    subst (λ z. SameBut name_a z y) (sym (only off n x first)) (subst (λ z. SameBut name_a off z) (sym (only on n y second)) (but_including name_a off))

-- ---- the monitor of `again`

ends_on : (u : List NameSet) → Accepts again u (on ∷ [])
ends_on u = (one_state_accepts (0 ∷ []) [] 1 (FormulaTree.Inf 0 false) u (on ∷ []) (lit< tt)).1 (ap (λ b. met (marks_if (0 ∷ []) [] b ∷ []) (FormulaTree.Inf 0 false)) on_a)

-- so often `off`, and then `on` for ever
begins_off : (n : ℕ) → SomeWord (λ u v. Accepts again u v) (λ x y. (k : ℕ) → k < n → letter_at x y k ≡ letter_at [] (off ∷ []) k)
begins_off n = record { stem = copies n (off ∷ []); cycle = on ∷ []; some = lit< tt; said = ends_on (copies n (off ∷ [])); same = same }
  where
    same : (k : ℕ) → k < n → letter_at (copies n (off ∷ [])) (on ∷ []) k ≡ letter_at [] (off ∷ []) k
    same k before =
        let long : n ≤ length (copies n (off ∷ [])) = covers n [] (off ∷ []) (lit< tt) in
        let within : k < length (copies n (off ∷ [])) = omega (arith, before, long) in
        let none : copies n (off ∷ []) ++ [] ≡ copies n (off ∷ []) = append-nil (copies n (off ∷ [])) in
        let first = letter_in (copies n (off ∷ [])) (on ∷ []) 0 k (lit< tt) (subst (λ xs. k < length xs) (sym none) within) in
        first ∙ (ap (λ xs. slice_get xs k) none ∙ sym (letter_in [] (off ∷ []) n k (lit< tt) within))

pub change_examples : ChangeExamples
change_examples = record {
  nothing = λ x u v. (λ h. h, λ h. h);
  as_it_is = λ x u v. (λ h. h, λ h. h);
  deterministic = λ x u v. (λ h. h, λ h. h);
  parity = λ x u v. (λ h. h, λ h. h);
  buchi = λ x u v. (λ h. h, λ h. h);
  without_fin = λ x u v. (λ h. h, λ h. h);
  dnf = λ x u v. (λ h. h, λ h. h);
  complement_on = λ h. h worked_examples.again_on;
  complement_on_off = λ h. h worked_examples.again_on_off;
  complement_off = worked_examples.again_off;
  complement_never = worked_examples.never_any;
  product_on_off = (worked_examples.again_on_off, worked_examples.off_again_on_off);
  product_on = λ h. worked_examples.off_again_on h.1;
  product_off = λ h. worked_examples.again_off h.0;
  product_or_on = inl worked_examples.ever_after_on;
  product_or_off = inr worked_examples.so_often_off;
  product_or_on_off = neither worked_examples.ever_after_on_off worked_examples.so_often_on_off;
  sum_on = inl worked_examples.ever_after_on;
  sum_off = inr worked_examples.so_often_off;
  sum_on_off = neither worked_examples.ever_after_on_off worked_examples.so_often_on_off;
  present_off = worked_examples.again_on;
  absent_on = absent_on;
  any_off = record { stem = []; cycle = on ∷ []; some = lit< tt; said = worked_examples.again_on; same = agree };
  monitor_off = begins_off;
  monitor_never = λ u v h. let begun = h 0 in worked_examples.never_any begun.stem begun.cycle begun.said;
  not_both_on_off = λ h. h (worked_examples.again_on_off, worked_examples.off_again_on_off);
  not_both_on = λ h. worked_examples.off_again_on h.1;
  not_both_off = λ h. worked_examples.again_off h.0;
  neither_on = λ h. h (inl worked_examples.ever_after_on);
  neither_on_off = neither worked_examples.ever_after_on_off worked_examples.so_often_on_off;
  both_or_on = inr worked_examples.again_on;
  both_or_off = neither (λ h. worked_examples.never_any [] (off ∷ []) h.1) worked_examples.again_off;
  in_order = refl;
  one_operand = refl;
}
