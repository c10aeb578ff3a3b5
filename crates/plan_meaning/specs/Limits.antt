-- Which limit is passed where an automaton is determinised, and where two are combined or compared: the first whose count
-- is exceeded.
use Rattle.std.specs.Prelude.{◌≡◌, ◌⊎◌, ◌<◌, ◌≤◌, List, [], ◌∷◌, ◌++◌, length}
use Rattle.aut_base.specs.Acceptance.{Accepts}
use Rattle.aut_base.specs.Automaton.{Automaton}
use Rattle.aut_base.specs.CanonicalLabel.{canonical}
use Rattle.aut_base.specs.Word.{NameSet}
use Rattle.aut_base.specs.declared.limit.Limit.{Limit}
use Rattle.aut_base.specs.declared.limit.Limit.TheVariants as limit
use Rattle.aut_base.specs.declared.limit.TheConstants.{MOST_BUCHI_STATES, MOST_NAMES, MOST_PAIRS}
use Rattle.aut_core.specs.Deterministic as core
use Rattle.aut_core.specs.OtherNames.{joined_names}
use Rattle.aut_ops.specs.Completion.{completed}
use Rattle.aut_ops.specs.Products.{HasMorePairs, over_both}
use Rattle.degeneralise.specs.Buchi.{NeedsTooManyTerms, buchi_states}
use Rattle.exploration.specs.declared.fault.Fault.TheVariants as explored
use Rattle.parity_det.specs.Complements.{IsComplementAutomaton}
use Rattle.parity_det.specs.Determinisation.{MeetsParityLimit}
use Rattle.word_syntax.specs.Grammar.{WordPattern}
use Rattle.word_syntax.specs.Matching.{word_automaton}

-- ---- the limits that there are: of two automata combined, of one determinised, and of two compared

abbrev pub limits_of_product : List Limit
limits_of_product = limit.Names ∷ limit.Pairs ∷ []

abbrev pub limits_of_parity : List Limit
limits_of_parity = limit.Terms ∷ limit.BuchiStates ∷ limit.Trees ∷ limit.Nodes ∷ limit.Classes ∷ []

abbrev pub limits_of_inclusion : List Limit
limits_of_inclusion = limits_of_parity ++ limits_of_product

-- ---- when one is passed

-- together they have more names than an automaton may have
abbrev pub HaveManyNames : Automaton → Automaton → Type 0
HaveManyNames a b = MOST_NAMES < length (joined_names a.names b.names)

abbrev pub HaveFewNames : Automaton → Automaton → Type 0
HaveFewNames a b = length (joined_names a.names b.names) ≤ MOST_NAMES

-- a product of two automata: their names joined, then the pairs that are reached
abbrev pub PassesOfBoth : Limit → Automaton → Automaton → Type 0
PassesOfBoth limit.Names a b = HaveManyNames a b
PassesOfBoth limit.Pairs a b = HaveFewNames a b × HasMorePairs MOST_PAIRS (over_both a b a) (over_both a b b)
PassesOfBoth _ a b = ⊥

-- a product-or of two automata: their names joined, then the pairs of their completions that are reached
abbrev pub PassesOfEither : Limit → Automaton → Automaton → Type 0
PassesOfEither limit.Names a b = HaveManyNames a b
PassesOfEither limit.Pairs a b = HaveFewNames a b × HasMorePairs MOST_PAIRS (over_both a b (completed a)) (over_both a b (completed b))
PassesOfEither _ a b = ⊥

-- a product with the automaton of a pattern: the names of the pattern come first
abbrev pub PassesOfWord : Limit → Automaton → WordPattern → Type 0
PassesOfWord which a p =
    ((which ≡ limit.Names) × (MOST_NAMES < length p.names))
    ⊎ ((length p.names ≤ MOST_NAMES) × PassesOfBoth which a (canonical (word_automaton p)))

-- a Büchi form: the terms of its condition, and then its states
abbrev pub PassesBuchi : Limit → Automaton → Type 0
PassesBuchi limit.Terms a = NeedsTooManyTerms a.formula
PassesBuchi limit.BuchiStates a = (NeedsTooManyTerms a.formula → ⊥) × (MOST_BUCHI_STATES < buchi_states a)
PassesBuchi _ a = ⊥

-- a parity automaton: the limits of the Büchi form, and then the first limit that its determinisation meets
abbrev pub PassesParityLimit : Limit → Automaton → Type 0
PassesParityLimit limit.Trees a = MeetsParityLimit a explored.States
PassesParityLimit limit.Nodes a = MeetsParityLimit a explored.StepFailed
PassesParityLimit limit.Classes a = MeetsParityLimit a explored.Classes
PassesParityLimit which a = PassesBuchi which a

-- a complement or a deterministic form: the same where the automaton isn't deterministic, else none
abbrev pub PassesUnlessDeterministic : Limit → Automaton → Type 0
PassesUnlessDeterministic which a = (core.IsDeterministic a → ⊥) × PassesParityLimit which a

-- ---- two automata compared

-- each lasso word that the one accepts is accepted by the other
abbrev pub IsIncluded : Automaton → Automaton → Type 0
IsIncluded a b = (u v : List NameSet) → Accepts a u v → Accepts b u v

-- a product of the one with the complement of the other
pub record PassesWithComplement (which : Limit) (a b : Automaton) : Type 0 where
  pub co : Automaton
  pub is : IsComplementAutomaton b co
  pub passes : PassesOfBoth which a co

-- whether the one is included in the other: the complement of the other, then its product with the one
abbrev pub PassesOfInclusion : Limit → Automaton → Automaton → Type 0
PassesOfInclusion which a b = PassesUnlessDeterministic which b ⊎ (((other : Limit) → PassesUnlessDeterministic other b → ⊥) × PassesWithComplement which a b)

-- the test of inclusion passes no limit
abbrev pub IsWithinInclusion : Automaton → Automaton → Type 0
IsWithinInclusion a b = (which : Limit) → PassesOfInclusion which a b → ⊥

-- language equivalence: whether the one is included in the other, and where it is, whether the other is included in the one
abbrev pub PassesOfEquivalence : Limit → Automaton → Automaton → Type 0
PassesOfEquivalence which a b = PassesOfInclusion which a b ⊎ (((other : Limit) → PassesOfInclusion other a b → ⊥) × IsIncluded a b × PassesOfInclusion which b a)
