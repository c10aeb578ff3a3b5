-- The complement of an automaton: a complete deterministic automaton with the same language, under the dual condition.
use Rattle.std.specs.Prelude.{◌≡◌, ◌⊎◌, ◌<◌, ◌≤◌}
use Rattle.aut_base.specs.Automaton.{Automaton}
use Rattle.aut_base.specs.declared.limit.TheConstants.{MOST_BUCHI_STATES}
use Rattle.aut_core.specs.Deterministic.{IsDeterministic}
use Rattle.aut_ops.specs.Completion.{completed}
use Rattle.degeneralise.specs.Buchi.{NeedsTooManyTerms, buchi, buchi_states}
use Rattle.exploration.specs.declared.fault.Fault.TheVariants as limit
use Rattle.parity_det.specs.Determinisation.{IsDeterminisation, MeetsParityLimit}
use Rattle.parity_det.specs.declared.fault.CompFault.{CompFault}
use Rattle.parity_det.specs.declared.fault.CompFault.TheVariants as fault
use Rattle.parity_laws.specs.Complement.{dualised}

-- The automaton made is the complement of a: under the dual condition, the completion of a where a is deterministic, and else its parity
-- automaton. Laws: there is at most one, and each lasso word is accepted by exactly one of the two.
pub record IsComplementAutomaton (a made : Automaton) : Type 0 where
  pub form : Automaton
  pub is_form : (IsDeterministic a × (form ≡ completed a)) ⊎ ((IsDeterministic a → ⊥) × IsDeterminisation (buchi a) form)
  pub is : made ≡ dualised form

-- the limit that the construction of the parity automaton of a passes first
abbrev pub PassesParity : CompFault → Automaton → Type 0
PassesParity fault.Terms a = NeedsTooManyTerms a.formula
PassesParity fault.BuchiStates a = (NeedsTooManyTerms a.formula → ⊥) × (MOST_BUCHI_STATES < buchi_states a)
PassesParity fault.Trees a = MeetsParityLimit a limit.States
PassesParity fault.Nodes a = MeetsParityLimit a limit.StepFailed
PassesParity fault.Classes a = MeetsParityLimit a limit.Classes
PassesParity fault.Memory a = ⊥

-- the construction of the parity automaton of a passes no limit
abbrev pub IsWithinParity : Automaton → Type 0
IsWithinParity a = (f : CompFault) → PassesParity f a → ⊥

-- why there is no parity automaton: want of memory, or a limit
abbrev pub IsParityRefusal : Automaton → CompFault → Type 0
IsParityRefusal a fault.Memory = Unit {0}
IsParityRefusal a f = PassesParity f a

-- why there is no complement: want of memory, or a limit, which only an automaton that isn't deterministic can pass
abbrev pub IsRefusal : Automaton → CompFault → Type 0
IsRefusal a fault.Memory = Unit {0}
IsRefusal a f = (IsDeterministic a → ⊥) × PassesParity f a

-- An automaton has one complement.
abbrev pub ComplementIsDetermined : Type 0
ComplementIsDetermined = (a made other : Automaton) → IsComplementAutomaton a made → IsComplementAutomaton a other → made ≡ other

-- An automaton passes at most one limit, and none where it has a parity automaton and its Büchi form is within the limits.
pub record ParityLimitsExclude (a : Automaton) : Type 0 where
  pub made : (made : Automaton) → IsDeterminisation (buchi a) made → buchi_states a ≤ MOST_BUCHI_STATES → (NeedsTooManyTerms a.formula → ⊥) → IsWithinParity a
  pub one : (f g : CompFault) → PassesParity f a → PassesParity g a → f ≡ g

abbrev pub ParityExcludesLimits : Type 0
ParityExcludesLimits = (a : Automaton) → ParityLimitsExclude a

-- An automaton that passes no limit has a parity automaton (said by double negation),
abbrev pub ParityExists : Type 0
ParityExists = (a : Automaton) → IsWithinParity a → ((made : Automaton) → IsDeterminisation (buchi a) made → ⊥) → ⊥

-- and one that is deterministic or passes no limit has a complement.
abbrev pub ComplementExists : Type 0
ComplementExists = (a : Automaton) → ((IsDeterministic a → ⊥) → IsWithinParity a) → ((made : Automaton) → IsComplementAutomaton a made → ⊥) → ⊥
