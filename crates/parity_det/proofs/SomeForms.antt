-- Where no limit is passed, there is a parity automaton and a complement.
use Rattle.std.proofs.Common.{◌≡◌, ◌≤◌, List, inl, inr, refl}
use Rattle.std.proofs.lemmas.Bool.{cases_lt}
use Rattle.aut_base.specs.Automaton.{Automaton}
use Rattle.aut_base.specs.declared.limit.TheConstants.{MOST_BUCHI_STATES}
use Rattle.aut_core.specs.Deterministic.{IsDeterministic}
use Rattle.aut_ops.proofs.flagged.SomeFlags.{pruned_exists}
use Rattle.aut_ops.specs.Completion.{completed}
use Rattle.aut_ops.specs.Pruning.{IsPruned}
use Rattle.degeneralise.specs.Buchi.{buchi, buchi_states}
use Rattle.exploration.proofs.Outcomes.{has_some_outcome}
use Rattle.exploration.specs.Turns.{HasOutcome, has_end, has_limit}
use Rattle.exploration.specs.declared.fault.Fault.{Fault}
use Rattle.exploration.specs.declared.fault.Fault.TheVariants as limit
use Rattle.parity_det.specs.Complements.{ComplementExists, IsWithinParity, ParityExists}
use Rattle.parity_det.proofs.TreeMoves.{start_tree}
use Rattle.parity_det.specs.Determinisation.{IsDeterminisation, MeetsTreeLimit, parity_on, tree_rules}
use Rattle.parity_det.specs.declared.fault.CompFault.TheVariants as fault
use Rattle.parity_laws.specs.Complement.{dualised}
use Rattle.safra_trees.specs.Trees.{Node}

module _ (a : Automaton) (within : IsWithinParity a) where
  few_states : buchi_states a ≤ MOST_BUCHI_STATES
  few_states = elim (cases_lt MOST_BUCHI_STATES (buchi_states a)) [
    | inl more ↦ absurd (within fault.BuchiStates (within fault.Terms, more))
    | inr few ↦ few
  ]

  meets_none : (f : Fault) → (f ≡ limit.Memory → ⊥) → MeetsTreeLimit (buchi a) f → ⊥
  meets_none limit.Classes other meets = within fault.Classes (within fault.Terms, few_states, meets)
  meets_none limit.StepFailed other meets = within fault.Nodes (within fault.Terms, few_states, meets)
  meets_none limit.States other meets = within fault.Trees (within fault.Terms, few_states, meets)
  meets_none limit.Memory other meets = other refl

  pruned_has_form : ((made : Automaton) → IsDeterminisation (buchi a) made → ⊥) → (pruned : Automaton) → IsPruned (buchi a) pruned → HasOutcome (tree_rules pruned) (start_tree pruned) → ⊥
  pruned_has_form none pruned is (has_end trees transitions ends) =
      none (parity_on trees transitions pruned) (pruned, is, record { trees = trees; transitions = transitions; explored = ends; is = refl })
  pruned_has_form none pruned is (has_limit f other meets) = meets_none f other (pruned, is, meets)

pub parity_exists : ParityExists
parity_exists a within none = pruned_exists (buchi a) (λ pruned is. pruned_has_form a within none pruned is (has_some_outcome (List Node) (tree_rules pruned) (start_tree pruned)))

pub complement_exists : ComplementExists
complement_exists a within none =
    let other : IsDeterministic a → ⊥ = λ is. none (dualised (completed a)) (record { form = completed a; is_form = inl (is, refl); is = refl }) in
    parity_exists a (within other) (λ made m. none (dualised made) (record { form = made; is_form = inr (other, m); is = refl }))
