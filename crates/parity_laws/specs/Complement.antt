-- Complements by the dual condition.
use Rattle.std.specs.Prelude.{◌<◌, ◌↔◌, ◌⊎◌, ℕ, List, length}
use Rattle.aut_base.specs.Acceptance.{Accepts}
use Rattle.aut_base.specs.Automaton.{Automaton, IsWellFormed}
use Rattle.aut_base.specs.Word.{NameSet}
use Rattle.acc_forms.specs.Dual.{dual}
use Rattle.aut_core.specs.Deterministic.{IsComplete, IsDeterministic}
use Rattle.safra_trees.specs.Trees.{Node}
use Rattle.parity_laws.specs.Buchi.{IsBuchiForm}
use Rattle.parity_laws.specs.Determinised.{TracksTrees}

-- the automaton with the dual condition
abbrev pub dualised : Automaton → Automaton
dualised a = record a { formula = dual a.formula }

-- Each lasso word is accepted by exactly one of the two automata.
pub record AreComplementLanguages (a made : Automaton) : Type 0 where
  pub one : (u v : List NameSet) → 0 < length v → Accepts a u v ⊎ Accepts made u v
  pub never_both : (u v : List NameSet) → Accepts a u v → Accepts made u v → ⊥
  pub exactly : (u v : List NameSet) → 0 < length v → Accepts made u v ↔ (Accepts a u v → ⊥)

-- Where an automaton is deterministic and complete, the one with the dual condition is its complement.
abbrev pub DualIsComplement : Type 0
DualIsComplement = (a : Automaton) → IsWellFormed a → IsDeterministic a → IsComplete a → AreComplementLanguages a (dualised a)

-- A complement of an automaton is a complement of every automaton with the same language.
abbrev pub ComplementsOfTheSame : Type 0
ComplementsOfTheSame = (a b made : Automaton) → ((u v : List NameSet) → Accepts b u v ↔ Accepts a u v) → AreComplementLanguages b made → AreComplementLanguages a made

-- So a determinised automaton with the dual condition is the complement of the Büchi automaton that it was made of.
abbrev pub DeterminisedDualIsComplement : Type 0
DeterminisedDualIsComplement = (b d : Automaton) (trees : List (List Node)) (most : ℕ) → IsBuchiForm b → TracksTrees b d trees most → AreComplementLanguages b (dualised d)
