-- Laws of products, trimming and pruning: existence and uniqueness.
use Rattle.std.specs.Prelude.{◌≡◌, ◌≢◌, ◌↔◌, ◌⊎◌, ℕ, ◌≤◌, List, AllPairs, Contains, length}
use Rattle.aut_base.specs.Acceptance.{IsPath}
use Rattle.aut_base.specs.Automaton.{Automaton, IsWellFormed, LabelledEdge}
use Rattle.aut_base.specs.Formula.{FormulaTree}
use Rattle.aut_base.specs.Word.{NameSet}
use Rattle.aut_ops.specs.BreadthFirst.{IsReachedFrom}
use Rattle.aut_ops.specs.Products.{ArePairs, HasMorePairs, IsProduct, next_pairs, start_pairs}
use Rattle.aut_ops.specs.Pruning.{IsPruned}
use Rattle.aut_ops.specs.Trimming.{IsTrimmed}

-- The list of pairs of two automata is unique. Its pairs differ, and are exactly those that are reached.
pub record PairsLaw (a b : Automaton) (pairs : List (ℕ × ℕ)) : Type 0 where
  pub one : (others : List (ℕ × ℕ)) → ArePairs a b others → others ≡ pairs
  pub differ : AllPairs (λ p q. p ≢ q) pairs
  pub exactly : (pair : ℕ × ℕ) → Contains pairs pair ↔ IsReachedFrom (start_pairs a b) (next_pairs a b) pair

abbrev pub PairsAreDetermined : Type 0
PairsAreDetermined = (a b : Automaton) (pairs : List (ℕ × ℕ)) → ArePairs a b pairs → PairsLaw a b pairs

-- So their product is unique.
abbrev pub ProductsAreDetermined : Type 0
ProductsAreDetermined = (join : FormulaTree → FormulaTree → FormulaTree) (a b made other : Automaton) → IsProduct join a b made → IsProduct join a b other → made ≡ other

-- Where a product has at most `most` states, no more than `most` pairs are reached.
abbrev pub FewPairsExcludeMore : Type 0
FewPairsExcludeMore = (join : FormulaTree → FormulaTree → FormulaTree) (a b made : Automaton) (most : ℕ) → IsProduct join a b made → made.states ≤ most → HasMorePairs most a b → ⊥

-- some letters lead from a start of each of the automata to the states of the pair
pub record AreLedTo (a b : Automaton) (pair : ℕ × ℕ) : Type 0 where
  pub letters : List NameSet
  pub first : ℕ
  pub second : ℕ
  pub is_first : Contains a.starts first
  pub is_second : Contains b.starts second
  pub path_edges : List LabelledEdge
  pub other : List LabelledEdge
  pub leads : IsPath a first letters path_edges pair.0
  pub leads_too : IsPath b second letters other pair.1

-- The pairs that are reached are those to which one list of letters leads in both automata.
abbrev pub ReachedByLetters : Type 0
ReachedByLetters = (a b : Automaton) → b.names ≡ a.names → IsWellFormed a → IsWellFormed b → (pair : ℕ × ℕ) → IsReachedFrom (start_pairs a b) (next_pairs a b) pair ↔ AreLedTo a b pair

-- The trimmed automaton of an automaton is unique.
abbrev pub TrimmedIsDetermined : Type 0
TrimmedIsDetermined = (a made other : Automaton) → IsTrimmed a made → IsTrimmed a other → made ≡ other

-- The pruned automaton of an automaton is unique.
abbrev pub PrunedIsDetermined : Type 0
PrunedIsDetermined = (a made other : Automaton) → IsPruned a made → IsPruned a other → made ≡ other

-- Two automata have a list of at most `most` pairs, or reach more pairs than that.
abbrev pub PairsExist : Type 0
PairsExist = (most : ℕ) (a b : Automaton) → ((pairs : List (ℕ × ℕ)) × ArePairs a b pairs × (length pairs ≤ most)) ⊎ HasMorePairs most a b

-- So they have a product of at most `most` states, or reach more pairs than that.
abbrev pub ProductsExist : Type 0
ProductsExist = (join : FormulaTree → FormulaTree → FormulaTree) (most : ℕ) (a b : Automaton)
    → ((made : Automaton) × IsProduct join a b made × (made.states ≤ most)) ⊎ HasMorePairs most a b

-- Each automaton has a trimmed one (it isn't so that there is none),
abbrev pub TrimmedExists : Type 0
TrimmedExists = (a : Automaton) → ((made : Automaton) → IsTrimmed a made → ⊥) → ⊥

-- and a pruned one.
abbrev pub PrunedExists : Type 0
PrunedExists = (a : Automaton) → ((made : Automaton) → IsPruned a made → ⊥) → ⊥
