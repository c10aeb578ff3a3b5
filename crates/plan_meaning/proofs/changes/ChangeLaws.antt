-- A list of changes makes at most one automaton, or else passes at most one limit, and never both.
use Rattle.std.proofs.Common.{◌≡◌, ◌∙◌, ◌<◌, ◌⊎◌, List, [], ◌∷◌, ap, arith, inl, inr, refl, subst, sym}
use Rattle.acc_forms.specs.Joined.{conj, disj}
use Rattle.aut_base.specs.Automaton.{Automaton}
use Rattle.aut_base.specs.declared.limit.Limit.{Limit}
use Rattle.aut_base.specs.declared.limit.Limit.TheVariants as limit
use Rattle.aut_ops.proofs.flagged.FlagLaws.{trimmed_is_determined}
use Rattle.aut_ops.proofs.pairs.Laws.{products_are_determined}
use Rattle.aut_ops.specs.Completion.{completed}
use Rattle.aut_ops.specs.Products.{over_both}
use Rattle.aut_base.specs.declared.limit.TheConstants.{MOST_BUCHI_STATES}
use Rattle.degeneralise.specs.Buchi.{NeedsTooManyTerms, buchi_states}
use Rattle.exploration.specs.declared.fault.Fault.{Fault}
use Rattle.exploration.specs.declared.fault.Fault.TheVariants as explored
use Rattle.filter_plan.specs.declared.plan.Form.{Form}
use Rattle.filter_plan.specs.declared.plan.Form.TheVariants as form
use Rattle.monitor_form.proofs.MonitorLaws.{monitor_excludes_limits, monitor_is_determined}
use Rattle.monitor_form.specs.Subsets.{MeetsLimit}
use Rattle.parity_det.proofs.ParityLaws.{complement_is_determined, parity_excludes_limits, parity_is_determined}
use Rattle.parity_det.specs.Complements as det
use Rattle.parity_det.specs.declared.fault.CompFault.{CompFault}
use Rattle.parity_det.specs.declared.fault.CompFault.TheVariants as comp
use Rattle.plan_meaning.specs.Changes.{Bring, Change, Complement, Complete, IsMadeInForm, Makes, MakesAll, MakesWithin, PassesForm, PassesIn}
use Rattle.plan_meaning.specs.Changes.{PassesMonitor, Product, ProductOr, RemoveAp, StopsIn, Sum, Trim}
use Rattle.plan_meaning.specs.Laws.{ChangesAreDetermined}
use Rattle.plan_meaning.specs.Limits.{HaveFewNames, HaveManyNames, PassesBuchi, PassesOfBoth, PassesOfEither, PassesParityLimit}

-- ---- one change

one_deterministic : (a made other : Automaton) → IsMadeInForm form.Deterministic a made → IsMadeInForm form.Deterministic a other → made ≡ other
one_deterministic a made other (inl h) (inl k) = h.1 ∙ sym k.1
one_deterministic a made other (inl h) (inr k) = absurd (k.0 h.0)
one_deterministic a made other (inr h) (inl k) = absurd (h.0 k.0)
one_deterministic a made other (inr h) (inr k) = parity_is_determined a made other h.1 k.1

one_form : (f : Form) (a made other : Automaton) → IsMadeInForm f a made → IsMadeInForm f a other → made ≡ other
one_form form.AsIs a made other h k = absurd h
one_form form.Deterministic a made other h k = one_deterministic a made other h k
one_form form.Parity a made other h k = parity_is_determined a made other h k
one_form form.Buchi a made other h k = h ∙ sym k
one_form form.RemoveFin a made other h k = h ∙ sym k
one_form form.Dnf a made other h k = h ∙ sym k
one_form form.Monitor a made other h k = monitor_is_determined a made other h k

one_made : (c : Change) (a made other : Automaton) → Makes c a made → Makes c a other → made ≡ other
one_made (Product b) a made other h k = products_are_determined conj (over_both a b a) (over_both a b b) made other h k
one_made (ProductOr b) a made other h k = products_are_determined disj (over_both a b (completed a)) (over_both a b (completed b)) made other h k
one_made (Sum b) a made other h k = h ∙ sym k
one_made (RemoveAp x) a made other h k = h ∙ sym k
one_made Trim a made other h k = trimmed_is_determined a made other h k
one_made Complement a made other h k = complement_is_determined a made other h k
one_made (Bring f) a made other h k = one_form f a made other h k
one_made Complete a made other h k = h ∙ sym k

-- ---- one limit of a change

-- either too many names, or few enough and too many pairs
abbrev NamesOrPairs : Limit → Automaton → Automaton → Type 0
NamesOrPairs which a b = ((which ≡ limit.Names) × HaveManyNames a b) ⊎ ((which ≡ limit.Pairs) × HaveFewNames a b)

of_both : (which : Limit) (a b : Automaton) → PassesOfBoth which a b → NamesOrPairs which a b
of_both limit.Names a b h = inl (refl, h)
of_both limit.Pairs a b h = inr (refl, h.0)
of_both _ a b h = absurd h

of_either : (which : Limit) (a b : Automaton) → PassesOfEither which a b → NamesOrPairs which a b
of_either limit.Names a b h = inl (refl, h)
of_either limit.Pairs a b h = inr (refl, h.0)
of_either _ a b h = absurd h

many_or_few : {A : Type 0} (a b : Automaton) → HaveManyNames a b → HaveFewNames a b → A
many_or_few a b many few = absurd (omega (arith, many, few))

one_of_two : (which other : Limit) (a b : Automaton) → NamesOrPairs which a b → NamesOrPairs other a b → which ≡ other
one_of_two which other a b (inl h) (inl k) = h.0 ∙ sym k.0
one_of_two which other a b (inl h) (inr k) = many_or_few a b h.1 k.1
one_of_two which other a b (inr h) (inl k) = many_or_few a b k.1 h.1
one_of_two which other a b (inr h) (inr k) = h.0 ∙ sym k.0

-- the limit that an exploration of sets meets
abbrev limit_of : Fault → Limit
limit_of explored.Classes = limit.Classes
limit_of explored.States = limit.Subsets
limit_of explored.StepFailed = limit.Nodes
limit_of explored.Memory = limit.Bytes

-- either terms that are needed and too many, or else too many states
abbrev TermsOrStates : Limit → Automaton → Type 0
TermsOrStates which a = ((which ≡ limit.Terms) × NeedsTooManyTerms a.formula) ⊎ ((which ≡ limit.BuchiStates) × (NeedsTooManyTerms a.formula → ⊥))

of_buchi : (which : Limit) (a : Automaton) → PassesBuchi which a → TermsOrStates which a
of_buchi limit.Terms a h = inl (refl, h)
of_buchi limit.BuchiStates a h = inr (refl, h.0)
of_buchi _ a h = absurd h

one_of_buchi : (which other : Limit) (a : Automaton) → TermsOrStates which a → TermsOrStates other a → which ≡ other
one_of_buchi which other a (inl h) (inl k) = h.0 ∙ sym k.0
one_of_buchi which other a (inl h) (inr k) = absurd (k.1 h.1)
one_of_buchi which other a (inr h) (inl k) = absurd (h.1 k.1)
one_of_buchi which other a (inr h) (inr k) = h.0 ∙ sym k.0

-- a limit of the subset construction is met, of a Büchi form within its limits
record IsOfSubsets (which : Limit) (a : Automaton) : Type 0 where
  few : NeedsTooManyTerms a.formula → ⊥
  fault : Fault
  meets : MeetsLimit a fault
  shown : which ≡ limit_of fault

one_of_monitor : (which other : Limit) (a : Automaton) → PassesMonitor which a → PassesMonitor other a → which ≡ other
one_of_monitor which other a h k = joined (of_monitor which a h) (of_monitor other a k)
  where
    of_monitor : (l : Limit) (x : Automaton) → PassesMonitor l x
        → ((l ≡ limit.Terms) × NeedsTooManyTerms x.formula) ⊎ (((l ≡ limit.BuchiStates) × (NeedsTooManyTerms x.formula → ⊥) × (MOST_BUCHI_STATES < buchi_states x)) ⊎ IsOfSubsets l x)
    of_monitor limit.Terms x p = inl (refl, p)
    of_monitor limit.BuchiStates x p = inr (inl (refl, p.0, p.1))
    of_monitor limit.Classes x p = inr (inr (record { few = p.0; fault = explored.Classes; meets = p.1; shown = refl }))
    of_monitor limit.Subsets x p = inr (inr (record { few = p.0; fault = explored.States; meets = p.1; shown = refl }))
    of_monitor _ x p = absurd p

    joined : ((which ≡ limit.Terms) × NeedsTooManyTerms a.formula) ⊎ (((which ≡ limit.BuchiStates) × (NeedsTooManyTerms a.formula → ⊥) × (MOST_BUCHI_STATES < buchi_states a)) ⊎ IsOfSubsets which a)
        → ((other ≡ limit.Terms) × NeedsTooManyTerms a.formula)
        ⊎ (((other ≡ limit.BuchiStates) × (NeedsTooManyTerms a.formula → ⊥) × (MOST_BUCHI_STATES < buchi_states a)) ⊎ IsOfSubsets other a) → which ≡ other
    joined (inl x) (inl y) = x.0 ∙ sym y.0
    joined (inl x) (inr (inl y)) = absurd (y.1 x.1)
    joined (inl x) (inr (inr y)) = absurd (y.few x.1)
    joined (inr (inl x)) (inl y) = absurd (x.1 y.1)
    joined (inr (inl x)) (inr (inl y)) = x.0 ∙ sym y.0
    joined (inr (inl x)) (inr (inr y)) = absurd (omega (arith, x.2, y.meets.few))
    joined (inr (inr x)) (inl y) = absurd (x.few y.1)
    joined (inr (inr x)) (inr (inl y)) = absurd (omega (arith, y.2, x.meets.few))
    joined (inr (inr x)) (inr (inr y)) = x.shown ∙ ap limit_of ((monitor_excludes_limits a).others x.fault y.fault x.meets y.meets) ∙ sym y.shown

-- the limit that a fault of determinisation names
abbrev pub limit_of_fault : CompFault → Limit
limit_of_fault comp.Terms = limit.Terms
limit_of_fault comp.BuchiStates = limit.BuchiStates
limit_of_fault comp.Trees = limit.Trees
limit_of_fault comp.Nodes = limit.Nodes
limit_of_fault comp.Classes = limit.Classes
limit_of_fault comp.Memory = limit.Bytes

pub record IsOfParity (which : Limit) (a : Automaton) : Type 0 where
  pub fault : CompFault
  pub passes : det.PassesParity fault a
  pub shown : which ≡ limit_of_fault fault

pub of_parity : (which : Limit) (a : Automaton) → PassesParityLimit which a → IsOfParity which a
of_parity limit.Terms a h = record { fault = comp.Terms; passes = h; shown = refl }
of_parity limit.BuchiStates a h = record { fault = comp.BuchiStates; passes = h; shown = refl }
of_parity limit.Trees a h = record { fault = comp.Trees; passes = h; shown = refl }
of_parity limit.Nodes a h = record { fault = comp.Nodes; passes = h; shown = refl }
of_parity limit.Classes a h = record { fault = comp.Classes; passes = h; shown = refl }
of_parity _ a h = absurd h

pub one_of_parity : (which other : Limit) (a : Automaton) → IsOfParity which a → IsOfParity other a → which ≡ other
one_of_parity which other a x y = x.shown ∙ ap limit_of_fault ((parity_excludes_limits a).one x.fault y.fault x.passes y.passes) ∙ sym y.shown

one_of_form : (f : Form) (which other : Limit) (a : Automaton) → PassesForm which f a → PassesForm other f a → which ≡ other
one_of_form form.AsIs which other a h k = absurd h
one_of_form form.Deterministic which other a h k = one_of_parity which other a (of_parity which a h.1) (of_parity other a k.1)
one_of_form form.Parity which other a h k = one_of_parity which other a (of_parity which a h) (of_parity other a k)
one_of_form form.Buchi which other a h k = one_of_buchi which other a (of_buchi which a h) (of_buchi other a k)
one_of_form form.RemoveFin which other a h k = h.0 ∙ sym k.0
one_of_form form.Dnf which other a h k = h.0 ∙ sym k.0
one_of_form form.Monitor which other a h k = one_of_monitor which other a h k

one_limit : (c : Change) (which other : Limit) (a : Automaton) → PassesIn which c a → PassesIn other c a → which ≡ other
one_limit (Product b) which other a h k = one_of_two which other a b (of_both which a b h) (of_both other a b k)
one_limit (ProductOr b) which other a h k = one_of_two which other a b (of_either which a b h) (of_either other a b k)
one_limit (Sum b) which other a h k = h.0 ∙ sym k.0
one_limit (RemoveAp x) which other a h k = absurd h
one_limit Trim which other a h k = absurd h
one_limit Complement which other a h k = one_of_parity which other a (of_parity which a h.1) (of_parity other a k.1)
one_limit (Bring f) which other a h k = one_of_form f which other a h k
one_limit Complete which other a h k = absurd h

-- ---- all changes

-- what holds of one automaton that a change makes holds of any that it makes
behind : (c : Change) (a next other : Automaton) (P : Automaton → Type 0) → MakesWithin c a next → MakesWithin c a other → P other → P next
behind c a next other P h k p = subst P (one_made c a other next k.makes h.makes) p

one_made_by_all : (cs : List Change) (a m n : Automaton) → MakesAll cs a m → MakesAll cs a n → m ≡ n
one_made_by_all [] a m n h k = h ∙ sym k
one_made_by_all (c ∷ cs) a m n h k = one_made_by_all cs h.0 m n h.2 (behind c a h.0 k.0 (λ x. MakesAll cs x n) h.1 k.1 k.2)

made_or_stopped : (cs : List Change) (a m : Automaton) (which : Limit) → MakesAll cs a m → StopsIn which cs a → ⊥
made_or_stopped [] a m which h k = k
made_or_stopped (c ∷ cs) a m which h (inl passes) = h.1.within which passes
made_or_stopped (c ∷ cs) a m which h (inr k) = made_or_stopped cs h.0 m which h.2 (behind c a h.0 k.0 (λ x. StopsIn which cs x) h.1 k.1 k.2)

one_limit_of_all : (cs : List Change) (a : Automaton) (which other : Limit) → StopsIn which cs a → StopsIn other cs a → which ≡ other
one_limit_of_all [] a which other h k = absurd h
one_limit_of_all (c ∷ cs) a which other (inl h) (inl k) = one_limit c which other a h k
one_limit_of_all (c ∷ cs) a which other (inl h) (inr k) = absurd (k.1.within which h)
one_limit_of_all (c ∷ cs) a which other (inr h) (inl k) = absurd (h.1.within other k)
one_limit_of_all (c ∷ cs) a which other (inr h) (inr k) = one_limit_of_all cs h.0 which other h.2 (behind c a h.0 k.0 (λ x. StopsIn other cs x) h.1 k.1 k.2)

pub changes_are_determined : ChangesAreDetermined
changes_are_determined cs a = record {
  made = one_made_by_all cs a;
  either = made_or_stopped cs a;
  limit = one_limit_of_all cs a;
}
