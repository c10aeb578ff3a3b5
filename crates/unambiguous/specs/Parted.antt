-- The square of an automaton, started in the pairs in which two of its runs may have diverged.
use Rattle.std.specs.Prelude.{◌≡◌, ◌≢◌, ◌==◌, ◌<◌, ℕ, Bool, true, false, not, ◌&&◌, ◌||◌, List, AllPairs, Contains, Some, length, slice_get}
use Rattle.std.specs.List.{list_any, slice_index_or}
use Rattle.aut_base.specs.Automaton.{Automaton}
use Rattle.aut_core.specs.SymbolicAutomata.{SymbolicAutomaton, automaton_of}
use Rattle.aut_core.specs.declared.link.Link.{Link}
use Rattle.aut_ops.specs.Labels.{both_labels, is_never}
use Rattle.aut_ops.specs.Languages.{ArePairwise}
use Rattle.aut_ops.specs.Products.{ArePairs, same_pair}
use Rattle.label_guards.specs.Store.{Store, label_in}

abbrev pub flag : List Bool → ℕ → Bool
flag flags q = slice_index_or flags q false

-- the links lead to the same state, and some letter meets both
abbrev pub do_meet : Store → Link → Link → Bool
do_meet s l m = (l.to == m.to) && not (is_never s.names (both_labels s.names (label_in s l.guard) (label_in s m.guard)))

-- the pair of the state with itself is listed
abbrev pub is_doubled : List (ℕ × ℕ) → ℕ → Bool
is_doubled pairs p = list_any (same_pair (p, p)) pairs

-- the links of these indices are twins: they leave one state, whose pair with itself is listed, lead to q, and some letter
-- meets both
pub record AreTwins (a : SymbolicAutomaton) (pairs : List (ℕ × ℕ)) (m n q : ℕ) : Type 0 where
  pub first : Link
  pub second : Link
  pub at : slice_get a.links m ≡ Some first
  pub other_at : slice_get a.links n ≡ Some second
  pub before : m < n
  pub doubled : is_doubled pairs first.from ≡ true
  pub from : second.from ≡ first.from
  pub to : first.to ≡ q
  pub meet : do_meet a.store first second ≡ true

-- the link of this index has a twin of a higher index
abbrev pub HasTwin : SymbolicAutomaton → List (ℕ × ℕ) → ℕ → Type 0
HasTwin a pairs m = (n : ℕ) × (q : ℕ) × AreTwins a pairs m n q

-- a flag for each state; where it is set, twins lead to the state
pub record AreEnds (a : SymbolicAutomaton) (pairs : List (ℕ × ℕ)) (flags : List Bool) : Type 0 where
  pub size : length flags ≡ a.states
  pub sound : (q : ℕ) → flag flags q ≡ true → (m : ℕ) × (n : ℕ) × AreTwins a pairs m n q

-- where the first of two twins has an index below this one, their target is flagged
abbrev pub AreFlagged : SymbolicAutomaton → List (ℕ × ℕ) → List Bool → ℕ → Type 0
AreFlagged a pairs flags before = (m n q : ℕ) → m < before → AreTwins a pairs m n q → flag flags q ≡ true

-- the pair is of two different states, or of a flagged one with itself
abbrev pub parts : List Bool → ℕ × ℕ → Bool
parts flags pair = not (pair.0 == pair.1) || flag flags pair.0

-- the indices below this one of the pairs that are of different states, or of a flagged one with itself
pub record ArePartings (flags : List Bool) (pairs : List (ℕ × ℕ)) (before : ℕ) (starts : List ℕ) : Type 0 where
  pub differ : AllPairs (λ p q. p ≢ q) starts
  pub sound : (k : ℕ) → Contains starts k → (k < before) × ((pair : ℕ × ℕ) → slice_get pairs k ≡ Some pair → parts flags pair ≡ true)
  pub whole : (k : ℕ) (pair : ℕ × ℕ) → k < before → slice_get pairs k ≡ Some pair → parts flags pair ≡ true → Contains starts k

-- The states of `s` are pairs of states of `a`; from each of them it accepts what `a` accepts from both, and it starts in
-- the pairs in which two runs may have diverged.
pub record IsParted (a : SymbolicAutomaton) (s : Automaton) : Type 0 where
  pub pairs : List (ℕ × ℕ)
  pub listed : ArePairs (automaton_of a) (automaton_of a) pairs
  pub pairwise : ArePairwise s pairs (automaton_of a) (automaton_of a)
  pub flags : List Bool
  pub ends : AreEnds a pairs flags
  pub flagged : AreFlagged a pairs flags (length a.links)
  pub starts : ArePartings flags pairs (length pairs) s.starts
