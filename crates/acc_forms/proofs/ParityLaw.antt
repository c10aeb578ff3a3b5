-- The condition of parity automata holds exactly where the least set that is visited is odd.
use Rattle.std.proofs.Common.{◌≡◌, ◌∙◌, ℕ, zero, suc, ◌+◌, ◌-◌, ◌%◌, ◌<◌, ◌≤◌, Bool, true, false, cond, not, ◌&&◌, ◌||◌, List, inl, inr, refl, sym, ap, subst, arith, ⊎_elim}
use Rattle.std.specs.List.{list_any}
use Rattle.std.proofs.lemmas.Bool.{cases_Bool, cases_eq, cases_lt, eq-eqb, ne_eqb, both_ways}
use Rattle.aut_base.proofs.lists.ListTests.{all-not}
use Rattle.aut_base.specs.Formula.{FormulaTree, Inf, Fin, And, Or, none, met}
use Rattle.aut_base.specs.Marks.{is_in}
use Rattle.acc_forms.specs.Parity.{is_odd, parity_from, parity_min_odd, IsCarried, MinIsOdd}

is_odd-next : (s : ℕ) → is_odd (s + 1) ≡ not (is_odd s)
is_odd-next s =
    ⊎_elim
    (λ odd. ne_eqb ((s + 1) % 2) 1 (λ h. omega arith) ∙ sym (ap not (eq-eqb (s % 2) 1 odd)))
    (λ even. let next : (s + 1) % 2 ≡ 1 = omega arith in eq-eqb ((s + 1) % 2) 1 next ∙ sym (ap not (ne_eqb (s % 2) 1 even)))
    (cases_eq (s % 2) 1)

either_way : (c r : Bool) → (c || (r || false)) ≡ cond c true r
either_way true r = refl
either_way false true = refl
either_way false false = refl

both_needed : (c r : Bool) → (not c && (r && true)) ≡ cond c false r
both_needed true r = refl
both_needed false true = refl
both_needed false false = refl

alone : (c : Bool) → c ≡ cond c true false
alone true = refl
alone false = refl

alone_not : (c : Bool) → not c ≡ cond c false true
alone_not true = refl
alone_not false = refl

module _ (cycle : List (List ℕ)) where
  abbrev carried : ℕ → Bool
  carried set = list_any (is_in set) cycle

  met-atom : (b : Bool) (set : ℕ) → met cycle (cond b (Inf set false) (Fin set false)) ≡ cond (carried set) b (not b)
  met-atom true set = alone (carried set)
  met-atom false set = all-not (is_in set) cycle ∙ alone_not (carried set)

  met-first : (b : Bool) (set : ℕ) (rest : FormulaTree)
      → met cycle (cond b (Or (cond b (Inf set false) (Fin set false)) rest none) (And (cond b (Inf set false) (Fin set false)) rest none)) ≡ cond (carried set) b (met cycle rest)
  met-first true set rest = either_way (carried set) (met cycle rest)
  met-first false set rest = ap (λ x. x && (met cycle rest && true)) (all-not (is_in set) cycle) ∙ both_needed (carried set) (met cycle rest)

  -- where the set is visited it decides
  here : (more set : ℕ) → carried set ≡ true → met cycle (parity_from more set) ≡ is_odd set
  here zero set is = met-atom (is_odd set) set ∙ ap (λ c. cond c (is_odd set) (not (is_odd set))) is
  here (suc more) set is = met-first (is_odd set) set (parity_from more (set + 1)) ∙ ap (λ c. cond c (is_odd set) (met cycle (parity_from more (set + 1)))) is

  -- and where it isn't the rest does
  last : (set : ℕ) → carried set ≡ false → met cycle (parity_from zero set) ≡ is_odd (set + 1)
  last set is = met-atom (is_odd set) set ∙ ap (λ c. cond c (is_odd set) (not (is_odd set))) is ∙ sym (is_odd-next set)

  later : (more set : ℕ) → carried set ≡ false → met cycle (parity_from (suc more) set) ≡ met cycle (parity_from more (set + 1))
  later more set is = met-first (is_odd set) set (parity_from more (set + 1)) ∙ ap (λ c. cond c (is_odd set) (met cycle (parity_from more (set + 1)))) is

  none_up_to_next : (set : ℕ) → ((k : ℕ) → k < set → ¬ (IsCarried cycle k)) → carried set ≡ false → (k : ℕ) → k < set + 1 → ¬ (IsCarried cycle k)
  none_up_to_next set below is k within carries =
      ⊎_elim
      (λ less. below k less carries)
      (λ least. let same : k ≡ set = omega arith in both_ways (carried set) is (subst (λ j. carried j ≡ true) same carries))
      (cases_lt k set)

  found : (n set : ℕ) → set < n → ((k : ℕ) → k < set → ¬ (IsCarried cycle k)) → carried set ≡ true → is_odd set ≡ true → MinIsOdd n cycle
  found n set within below is odd = inl (record { set = set; below = within; least = record { carried = is; least = below }; odd = odd })

  says : (more set n : ℕ) → n ≡ set + more + 1 → ((k : ℕ) → k < set → ¬ (IsCarried cycle k)) → met cycle (parity_from more set) ≡ true → MinIsOdd n cycle
  says zero set n e below holds =
      ⊎_elim
      (λ is. found n set (omega arith) below is (sym (here zero set is) ∙ holds))
      (λ is.
      let whole : set + 1 ≡ n = omega arith in
      inr (record { none_carried = λ k within. none_up_to_next set below is k (omega arith); odd = subst (λ m. is_odd m ≡ true) whole (sym (last set is) ∙ holds) }))
      (cases_Bool (carried set))
  says (suc more) set n e below holds =
      ⊎_elim
      (λ is. found n set (omega arith) below is (sym (here (suc more) set is) ∙ holds))
      (λ is. says more (set + 1) n (omega arith) (none_up_to_next set below is) (sym (later more set is) ∙ holds))
      (cases_Bool (carried set))

  -- where no set before this one is visited and this one is, it is the least
  same_least : (n set : ℕ) → ((k : ℕ) → k < set → ¬ (IsCarried cycle k)) → carried set ≡ true → set < n → MinIsOdd n cycle → is_odd set ≡ true
  same_least n set below is within (inl l) =
      ⊎_elim
      (λ less. absurd (below l.set less l.least.carried))
      (λ least.
      ⊎_elim
      (λ less. absurd (l.least.least set less is))
      (λ most. let same : l.set ≡ set = omega arith in subst (λ m. is_odd m ≡ true) same l.odd)
      (cases_lt set l.set))
      (cases_lt l.set set)
  same_least n set below is within (inr r) = absurd (r.none_carried set within is)

  none_odd : (n set : ℕ) → n ≡ set + 1 → ((k : ℕ) → k < set + 1 → ¬ (IsCarried cycle k)) → MinIsOdd n cycle → is_odd (set + 1) ≡ true
  none_odd n set e below (inl l) = absurd (below l.set (subst (λ m. l.set < m) e l.below) l.least.carried)
  none_odd n set e below (inr r) = subst (λ m. is_odd m ≡ true) e r.odd

  means : (more set n : ℕ) → n ≡ set + more + 1 → ((k : ℕ) → k < set → ¬ (IsCarried cycle k)) → MinIsOdd n cycle → met cycle (parity_from more set) ≡ true
  means zero set n e below odd =
      ⊎_elim
      (λ is. here zero set is ∙ same_least n set below is (omega arith) odd)
      (λ is. last set is ∙ none_odd n set (omega arith) (none_up_to_next set below is) odd)
      (cases_Bool (carried set))
  means (suc more) set n e below odd =
      ⊎_elim
      (λ is. here (suc more) set is ∙ same_least n set below is (omega arith) odd)
      (λ is. later more set is ∙ means more (set + 1) n (omega arith) (none_up_to_next set below is) odd)
      (cases_Bool (carried set))

  pub met-parity_says : (n : ℕ) → 1 ≤ n → met cycle (parity_min_odd n) ≡ true → MinIsOdd n cycle
  met-parity_says n some = says (n - 1) 0 n (omega arith) (λ k within. absurd (omega arith))

  pub met-parity_means : (n : ℕ) → 1 ≤ n → MinIsOdd n cycle → met cycle (parity_min_odd n) ≡ true
  met-parity_means n some = means (n - 1) 0 n (omega arith) (λ k within. absurd (omega arith))
