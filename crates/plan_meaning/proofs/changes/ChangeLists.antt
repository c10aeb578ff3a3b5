-- The changes of a plan as a list.
use Rattle.std.proofs.Common.{◌≡◌, ◌<◌, ◌+◌, ℕ, List, [], ◌∷◌, ◌++◌, Option, Some, None, Result, Err, refl, sym, ap, ◌∙◌, subst, take, drop, get_or, length}
use Rattle.std.specs.Option.{option_map}
use Rattle.std.specs.Result.{IsErrAnd}
use Rattle.std.proofs.lemmas.List.{drop_more, take-append-drop}
use Rattle.std.proofs.lemmas.List.Elements.{filter_map-append}
use Rattle.aut_base.specs.Automaton.{Automaton}
use Rattle.aut_core.specs.SymbolicAutomata.{SymbolicAutomaton}
use Rattle.plan_meaning.proofs.StandingLists.{standing_up_to_next}
use Rattle.plan_meaning.proofs.changes.Stepping.{made_then, steps_end, steps_then}
use Rattle.plan_meaning.specs.Changes.{Change}
use Rattle.plan_meaning.specs.declared.changing.list.Change as coded
use Rattle.plan_meaning.specs.declared.fault.PlanFault.{PlanFault}
use Rattle.plan_meaning.specs.inner.Stepping.{IsMadeAsPromised, IsOfSizeBefore, IsOfSizeBehind, IsOfSizeFor, IsPossible, StepsChanges, change_of, changes_asked}

pub none_made : (a : Automaton) → IsMadeAsPromised [] a a
none_made a = record { all = refl; says = λ u v some. ((λ x. x), (λ x. x)) }

module _ (xs : List (Option coded.Change)) (i : ℕ) (d o : Option coded.Change) (a b : Automaton) (lt : i < length xs) (is : get_or xs i d ≡ o)
    (before : IsMadeAsPromised (changes_asked (take i xs)) a b) where
  pub made_on : (next : Automaton) → IsMadeAsPromised (changes_asked (o ∷ [])) b next → IsMadeAsPromised (changes_asked (take (i + 1) xs)) a next
  made_on next this = subst (λ (cs : List Change). IsMadeAsPromised cs a next) (sym (standing_up_to_next change_of xs i d o lt is))
      (made_then (changes_asked (take i xs)) (changes_asked (o ∷ [])) a b next before this)

  -- this change ends in a fault, and so does the list
  pub stops_here : (came : PlanFault) (r : Result SymbolicAutomaton PlanFault) → IsErrAnd r (λ y. y ≡ came) → StepsChanges (changes_asked (o ∷ [])) b (Err came) → StepsChanges (changes_asked xs) a r
  stops_here came r passed this =
      let start = changes_asked (take (i + 1) xs) in
      let after = changes_asked (drop (i + 1) xs) in
      let stop : Result SymbolicAutomaton PlanFault = Err came in
      let whole : start ++ after ≡ changes_asked xs = sym (sym (ap changes_asked (take-append-drop (i + 1) xs)) ∙ filter_map-append (option_map change_of) (take (i + 1) xs) (drop (i + 1) xs)) in
      subst (λ (cs : List Change). StepsChanges cs a r) whole (steps_end start after a came r passed
      (subst (λ (cs : List Change). StepsChanges cs a stop) (sym (standing_up_to_next change_of xs i d o lt is))
      (steps_then (changes_asked (take i xs)) (changes_asked (o ∷ [])) a b stop before this)))

-- ---- sizes for the changes from an index on

module _ (xs : List (Option coded.Change)) (i : ℕ) (d : Option coded.Change) (a : Automaton) (lt : i < length xs) (sizes : IsOfSizeFor (changes_asked (drop i xs)) a) where
  opened : (o : Option coded.Change) → get_or xs i d ≡ o → IsOfSizeFor (changes_asked (o ∷ drop (i + 1) xs)) a
  opened o is = subst (λ (os : List (Option coded.Change)). IsOfSizeFor (changes_asked os) a) (drop_more xs i d lt ∙ ap (λ x. x ∷ drop (i + 1) xs) is) sizes

  -- this change can be made
  pub can_be_made : (c : coded.Change) → get_or xs i d ≡ Some c
      → IsPossible (change_of c) × IsOfSizeBefore (change_of c) a × ((made : Automaton) → IsOfSizeBehind (change_of c) made → IsOfSizeFor (changes_asked (drop (i + 1) xs)) made)
  can_be_made c is = opened (Some c) is

  -- this change isn't asked for
  pub left_out : get_or xs i d ≡ None → IsOfSizeFor (changes_asked (drop (i + 1) xs)) a
  left_out is = opened None is
