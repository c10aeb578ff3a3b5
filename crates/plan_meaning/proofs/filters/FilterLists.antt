-- Filters that are examined one after the other.
use Rattle.std.proofs.Common.{◌≡◌, ◌<◌, ◌+◌, ℕ, Bool, true, false, List, [], ◌∷◌, ◌++◌, Option, Some, Result, Ok, Err, refl, sym, subst, take, drop, get_or, length}
use Rattle.std.specs.Result.{IsErrAnd}
use Rattle.aut_base.proofs.Outcomes.{hands_on}
use Rattle.aut_base.specs.Automaton.{Automaton}
use Rattle.aut_base.specs.Lists.{FirstIn}
use Rattle.plan_meaning.proofs.StandingLists.{standing_up_to_next, parted}
use Rattle.plan_meaning.specs.Filters.{AllHold, Filter, HoldsWithin}
use Rattle.plan_meaning.specs.declared.fault.PlanFault.{PlanFault}
use Rattle.plan_meaning.specs.declared.fault.PlanFault.TheVariants as fault
use Rattle.plan_meaning.specs.declared.judging.filter.Filter as coded
use Rattle.plan_meaning.specs.inner.Judging.{ExaminesFilter, JudgesWithin, asked_for, filter_of}

hold_both : (fs gs : List Filter) (a : Automaton) → AllHold fs a → AllHold gs a → AllHold (fs ++ gs) a
hold_both [] gs a h k = k
hold_both (f ∷ fs) gs a h k = (h.0, hold_both fs gs a h.1 k)

module _ (xs : List (Option coded.Filter)) (i : ℕ) (d o : Option coded.Filter) (a : Automaton) (lt : i < length xs) (is : get_or xs i d ≡ o) (held : AllHold (asked_for (take i xs)) a) where
  -- this filter holds too, or isn't asked for
  pub goes_on : AllHold (asked_for (o ∷ [])) a → AllHold (asked_for (take (i + 1) xs)) a
  goes_on this = subst (λ (fs : List Filter). AllHold fs a) (sym (standing_up_to_next filter_of xs i d o lt is)) (hold_both (asked_for (take i xs)) (asked_for (o ∷ [])) a held this)

  first : (f : coded.Filter) → o ≡ Some f → FirstIn (λ g. HoldsWithin g a) (asked_for xs) (filter_of f)
  first f some = record { before = asked_for (take i xs); after = asked_for (drop (i + 1) xs); all = parted filter_of xs i d o lt is f some; earlier = held }

  -- this filter is the last that is examined
  pub ends : (f : coded.Filter) (r : Result Bool PlanFault) → o ≡ Some f → (r ≡ Ok true → ⊥) → ExaminesFilter r (filter_of f) a → JudgesWithin r (asked_for xs) a
  ends f (Ok true) some not_true this = absurd (not_true refl)
  ends f (Ok false) some not_true this = (filter_of f, first f some, this)
  ends f (Err (fault.Limit which)) some not_true this = (filter_of f, first f some, this)
  ends f (Err fault.Memory) some not_true this = tt

-- a fault that is passed on
pub passed_on : (r : Result Bool PlanFault) (f : PlanFault) (fs : List Filter) (a : Automaton) → IsErrAnd r (λ y. y ≡ f) → JudgesWithin (Err f) fs a → JudgesWithin r fs a
passed_on r f fs a passed h = hands_on r f (λ x. JudgesWithin x fs a) passed h
