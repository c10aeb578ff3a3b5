-- What is made of an automaton in the form of a monitor.
use Rattle.std.proofs.Common.{◌≡◌, ◌<◌, ◌≤◌, ℕ, List, [], ◌∷◌, arith, refl}
use Rattle.ap_project.specs.Hiding.{SomeWord}
use Rattle.aut_base.specs.Acceptance.{Accepts}
use Rattle.aut_base.specs.Automaton.{Automaton}
use Rattle.aut_base.specs.Word.{NameSet, letter_at}
use Rattle.aut_base.specs.declared.limit.Limit.{Limit}
use Rattle.aut_base.specs.declared.limit.Limit.TheVariants as limit
use Rattle.aut_base.specs.declared.limit.TheConstants.{MOST_BUCHI_STATES}
use Rattle.aut_core.specs.Deterministic.{IsDeterministic}
use Rattle.degeneralise.specs.Buchi.{NeedsTooManyTerms, buchi_states}
use Rattle.exploration.specs.declared.fault.Fault.{Fault}
use Rattle.exploration.specs.declared.fault.Fault.TheVariants as explored
use Rattle.filter_plan.specs.declared.plan.Form.TheVariants as form
use Rattle.monitor_form.specs.Prefixes.{AcceptsPrefixes, HasPrefix}
use Rattle.monitor_form.specs.Subsets.{IsMonitorAutomaton, MeetsLimit}
use Rattle.plan_meaning.specs.Changes.{Bring, PassesMonitor}
use Rattle.plan_meaning.specs.inner.Stepping.{IsMadeAsPromised}

module _ (a : Automaton) where
  within : (NeedsTooManyTerms a.formula → ⊥) → buchi_states a ≤ MOST_BUCHI_STATES → ((f : Fault) → MeetsLimit a f → ⊥) → (which : Limit) → PassesMonitor which a → ⊥
  within terms few none limit.Terms h = terms h
  within terms few none limit.BuchiStates h = omega (arith, h.1, few)
  within terms few none limit.Classes h = none explored.Classes h.1
  within terms few none limit.Subsets h = none explored.States h.1
  within terms few none _ h = h

  some_prefix : (u v : List NameSet) (n : ℕ) → HasPrefix a u v n → SomeWord (λ x y. Accepts a x y) (λ x y. (k : ℕ) → k < n → letter_at x y k ≡ letter_at u v k)
  some_prefix u v n p = record { stem = p.stem; cycle = p.cycle; some = p.accepted.endless; said = p.accepted; same = p.same }

  has_prefix : (u v : List NameSet) (n : ℕ) → SomeWord (λ x y. Accepts a x y) (λ x y. (k : ℕ) → k < n → letter_at x y k ≡ letter_at u v k) → HasPrefix a u v n
  has_prefix u v n p = record { stem = p.stem; cycle = p.cycle; accepted = p.said; same = p.same }

  pub monitor_made : (made : Automaton) → (NeedsTooManyTerms a.formula → ⊥) → buchi_states a ≤ MOST_BUCHI_STATES → ((f : Fault) → MeetsLimit a f → ⊥) → IsMonitorAutomaton a made
      → IsDeterministic made → AcceptsPrefixes made a → IsMadeAsPromised (Bring form.Monitor ∷ []) a made
  monitor_made made terms few none is deterministic accepts = record {
    all = (made, record { within = within terms few none; makes = is }, deterministic, refl);
    says = λ u v some. (
      (λ x n. some_prefix u v n ((accepts u v some).0 x n)),
      (λ x. (accepts u v some).1 (λ n. has_prefix u v n (x n))),
    );
  }
