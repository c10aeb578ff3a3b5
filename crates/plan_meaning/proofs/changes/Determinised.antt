-- What is made of an automaton by determinisation: parity automata, deterministic ones, and complements.
use Rattle.std.proofs.Common.{[], ◌∷◌, inl, inr, refl}
use Rattle.aut_base.specs.Automaton.{Automaton}
use Rattle.aut_base.specs.declared.limit.Limit.{Limit}
use Rattle.aut_base.specs.declared.limit.Limit.TheVariants as limit
use Rattle.aut_core.specs.Deterministic.{IsDeterministic}
use Rattle.aut_core.specs.OtherNames.{AcceptTheSame}
use Rattle.degeneralise.specs.Buchi.{buchi}
use Rattle.filter_plan.specs.declared.plan.Form.TheVariants as form
use Rattle.parity_det.specs.Complements.{IsComplementAutomaton, IsWithinParity}
use Rattle.parity_det.specs.Determinisation.{IsDeterminisation}
use Rattle.parity_det.specs.Promises.{IsParityMinOdd}
use Rattle.parity_det.specs.declared.fault.CompFault.TheVariants as comp
use Rattle.parity_laws.specs.Complement.{AreComplementLanguages}
use Rattle.plan_meaning.proofs.changes.Stepping.{changed_once}
use Rattle.plan_meaning.specs.Changes.{Bring, Complement}
use Rattle.plan_meaning.specs.Limits.{PassesParityLimit}
use Rattle.plan_meaning.specs.inner.Stepping.{IsMadeAsPromised}

module _ (a : Automaton) where
  pub within : IsWithinParity a → (which : Limit) → PassesParityLimit which a → ⊥
  within none limit.Terms h = none comp.Terms h
  within none limit.BuchiStates h = none comp.BuchiStates h
  within none limit.Trees h = none comp.Trees h
  within none limit.Nodes h = none comp.Nodes h
  within none limit.Classes h = none comp.Classes h
  within none _ h = h

  pub parity_made : (made : Automaton) → IsWithinParity a → IsDeterminisation (buchi a) made → IsParityMinOdd made → AcceptTheSame made a → IsMadeAsPromised (Bring form.Parity ∷ []) a made
  parity_made made none is parity accepts = changed_once (Bring form.Parity) a made (within none) is parity accepts

  pub deterministic_made : (made : Automaton) → (IsDeterministic a → ⊥) → IsWithinParity a → IsDeterminisation (buchi a) made → IsParityMinOdd made → AcceptTheSame made a
      → IsMadeAsPromised (Bring form.Deterministic ∷ []) a made
  deterministic_made made other none is parity accepts =
      changed_once (Bring form.Deterministic) a made (λ which h. within none which h.1) (inr (other, is)) parity.deterministic accepts

  pub deterministic_itself : IsDeterministic a → IsMadeAsPromised (Bring form.Deterministic ∷ []) a a
  deterministic_itself is = changed_once (Bring form.Deterministic) a a (λ which h. h.0 is) (inl (is, refl)) is (λ u v. ((λ x. x), (λ x. x)))

  pub complement_made : (made : Automaton) → ((IsDeterministic a → ⊥) → IsWithinParity a) → IsComplementAutomaton a made → AreComplementLanguages a made → IsMadeAsPromised (Complement ∷ []) a made
  complement_made made none is complements = record {
    all = (made, record { within = λ which h. within (none h.0) which h.1; makes = is }, tt, refl);
    says = λ u v some. complements.exactly u v some;
  }
