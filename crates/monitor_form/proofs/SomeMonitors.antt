-- Where no limit is met there is a monitor.
use Rattle.std.proofs.Common.{◌≡◌, ◌∙◌, ◌<◌, ◌≤◌, ℕ, Bool, true, List, [], ◌∷◌, Option, Some, None, ap, arith, inl, inr, length, refl, slice_get, subst, sym}
use Rattle.std.proofs.lemmas.Bool.{cases_Bool}
use Rattle.std.specs.Cmp.Lexicographic.{pointwise}
use Rattle.std.specs.Prelude.{nat_eq}
use Rattle.aut_base.proofs.words.Texts.{other_text, same_text}
use Rattle.aut_base.specs.Automaton.{Automaton}
use Rattle.aut_base.specs.declared.limit.TheConstants.{MOST_BUCHI_STATES}
use Rattle.aut_ops.proofs.flagged.SomeFlags.{pruned_exists}
use Rattle.aut_ops.specs.Pruning.{IsPruned}
use Rattle.degeneralise.specs.Buchi.{buchi, buchi_states}
use Rattle.exploration.proofs.Causes.{met}
use Rattle.exploration.proofs.Outcomes.{has_some_outcome}
use Rattle.exploration.specs.TransitionFunctions.{StepFailed}
use Rattle.exploration.specs.Turns.{Comes, HasOutcome, LimitMet, begin, has_end, has_limit}
use Rattle.exploration.specs.declared.fault.Fault.{Fault}
use Rattle.exploration.specs.declared.fault.Fault.TheVariants as limit
use Rattle.letter_classes.specs.SetClasses.{set_classes}
use Rattle.monitor_form.proofs.SubsetMoves.{some_set, subset_step, unless_empty}
use Rattle.monitor_form.specs.Subsets.{IsMonitorAutomaton, MeetsLimit, MonitorExists, successor_set, monitor_on, start_set, subset_rules}

numbers_same : (xs : List ℕ) → pointwise nat_eq xs xs ≡ true
numbers_same xs = elim (cases_Bool (pointwise nat_eq xs xs)) [ inl is ↦ is | inr isnt ↦ absurd (other_text xs xs isnt refl) ]

-- no step fails
goals_go : (set : List ℕ) → unless_empty set ≡ StepFailed → ⊥
goals_go [] is = absurd cc
goals_go (q ∷ qs) is = (let e = sym (some_set q qs) ∙ is in absurd cc)

step_goes : (b : Automaton) (set : List ℕ) (o : Option (List Bool)) → subset_step b set o ≡ StepFailed → ⊥
step_goes b set None is = absurd cc
step_goes b set (Some v) is = goals_go (successor_set b set v) is

no_nodes : (b : Automaton) → Comes (subset_rules b) (begin (start_set b)) (LimitMet limit.StepFailed) → ⊥
no_nodes b comes =
    let failure = met (subset_rules b) same_text numbers_same (start_set b) limit.StepFailed comes in
    step_goes b failure.state (slice_get (set_classes b failure.state) failure.class) failure.fails

module _ (a : Automaton) (few : buchi_states a ≤ MOST_BUCHI_STATES) (classes : MeetsLimit a limit.Classes → ⊥) (states : MeetsLimit a limit.States → ⊥) where
  module _ (pruned : Automaton) (is : IsPruned (buchi a) pruned) where
    meets_none : (f : Fault) → (f ≡ limit.Memory → ⊥) → 0 < length pruned.starts → Comes (subset_rules pruned) (begin (start_set pruned)) (LimitMet f) → ⊥
    meets_none limit.Classes other some meets = classes (record { few = few; pruned = pruned; is_pruned = is; meets = record { some = some; meets = meets } })
    meets_none limit.States other some meets = states (record { few = few; pruned = pruned; is_pruned = is; meets = record { some = some; meets = meets } })
    meets_none limit.StepFailed other some meets = no_nodes pruned meets
    meets_none limit.Memory other some meets = other refl

    has_form : ((made : Automaton) → IsMonitorAutomaton a made → ⊥) → (ss : List ℕ) → pruned.starts ≡ ss → HasOutcome (subset_rules pruned) (start_set pruned) → ⊥
    has_form none [] starts outcome = none (monitor_on [] [] pruned) (record {
      pruned = pruned;
      is_pruned = is;
      is = record { sets = []; transitions = []; none = λ _. (refl, refl); explored = λ some. absurd (omega (arith, some, ap (λ (xs : List ℕ). length xs) starts)); is = refl };
    })
    has_form none (s ∷ ss) starts (has_end sets transitions ends) = none (monitor_on sets transitions pruned) (record {
      pruned = pruned;
      is_pruned = is;
      is = record { sets = sets; transitions = transitions; none = λ no. absurd (omega (arith, ap (λ (xs : List ℕ). length xs) (sym starts ∙ no))); explored = λ _. ends; is = refl };
    })
    has_form none (s ∷ ss) starts (has_limit f other meets) = meets_none f other (subst (λ (qs : List ℕ). 0 < length qs) (sym starts) (omega arith)) meets

pub monitor_exists : MonitorExists
monitor_exists a few classes states none = pruned_exists (buchi a) (λ pruned is.
    has_form a few classes states pruned is none pruned.starts refl (has_some_outcome (List ℕ) (subset_rules pruned) (start_set pruned)))
