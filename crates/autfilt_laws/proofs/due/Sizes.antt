-- What is known of an automaton before and after each change.
use Rattle.std.proofs.Common.{◌≤◌, [], ◌∷◌, inl, inr, length, subst}
use Rattle.std.proofs.lemmas.Bool.{cases_lt}
use Rattle.aut_base.specs.Automaton.{Automaton, IsWellFormed}
use Rattle.aut_base.specs.Formula.{FormulaTree}
use Rattle.aut_base.specs.declared.limit.Limit.{Limit}
use Rattle.aut_base.specs.declared.limit.Limit.TheVariants as limit
use Rattle.aut_base.specs.declared.limit.TheConstants.{MOST_BUCHI_STATES, MOST_NAMES, MOST_PAIRS}
use Rattle.aut_core.specs.OtherNames.{joined_names}
use Rattle.aut_ops.proofs.pairs.Existence.{products_exist}
use Rattle.aut_ops.proofs.pairs.Laws.{products_are_determined}
use Rattle.aut_ops.specs.Products.{HasMorePairs, IsProduct}
use Rattle.degeneralise.specs.Buchi.{NeedsTooManyTerms, buchi_states}
use Rattle.parity_det.specs.Complements.{IsWithinParity}
use Rattle.parity_det.specs.declared.fault.CompFault.TheVariants as comp
use Rattle.plan_meaning.specs.Changes.{Change}
use Rattle.plan_meaning.specs.Limits.{HaveFewNames, HaveManyNames, PassesBuchi, PassesParityLimit}
use Rattle.plan_meaning.specs.Operands.{IsOfReadSize}
use Rattle.plan_meaning.specs.inner.Stepping.{IsMadeAsPromised, IsOfSizeBehind}

-- It is well-formed and of this size.
pub record IsFine (Size : Automaton → Type 0) (a : Automaton) : Type 0 where
  pub formed : IsWellFormed a
  pub names : length a.names ≤ MOST_NAMES
  pub size : Size a

-- it may be an operand of products and sums
pub record IsOperand (b : Automaton) : Type 0 where
  pub formed : IsWellFormed b
  pub size : IsOfReadSize b

-- The change makes this of the automaton, with what is promised and of the size that is known after the change.
pub record Step (c : Change) (a made : Automaton) : Type 0 where
  pub is : IsMadeAsPromised (c ∷ []) a made
  pub fine : IsFine (IsOfSizeBehind c) made

-- ---- limits that aren't passed

pub few_names : (a b : Automaton) → (HaveManyNames a b → ⊥) → HaveFewNames a b
few_names a b few = elim (cases_lt MOST_NAMES (length (joined_names a.names b.names))) [
  | inl many ↦ absurd (few many)
  | inr within ↦ within
]

pub few_pairs : (join : FormulaTree → FormulaTree → FormulaTree) (x y made : Automaton) → IsProduct join x y made → (HasMorePairs MOST_PAIRS x y → ⊥) → made.states ≤ MOST_PAIRS
few_pairs join x y made is none = elim (products_exist join MOST_PAIRS x y) [
  | inl found ↦ subst (λ (z : Automaton). z.states ≤ MOST_PAIRS) (products_are_determined join x y found.0 made found.1 is) found.2
  | inr more ↦ absurd (none more)
]

pub within_parity : (a : Automaton) → ((which : Limit) → PassesParityLimit which a → ⊥) → IsWithinParity a
within_parity a within comp.Terms h = within limit.Terms h
within_parity a within comp.BuchiStates h = within limit.BuchiStates h
within_parity a within comp.Trees h = within limit.Trees h
within_parity a within comp.Nodes h = within limit.Nodes h
within_parity a within comp.Classes h = within limit.Classes h
within_parity a within comp.Memory h = h

pub few_states : (a : Automaton) → (NeedsTooManyTerms a.formula → ⊥) → (PassesBuchi limit.BuchiStates a → ⊥) → buchi_states a ≤ MOST_BUCHI_STATES
few_states a terms none = elim (cases_lt MOST_BUCHI_STATES (buchi_states a)) [
  | inl more ↦ absurd (none (terms, more))
  | inr few ↦ few
]
