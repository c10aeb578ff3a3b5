-- Deterministic and complete automata (HOA v1, properties). A letter meets an edge where it satisfies the edge's label.
use Rattle.std.specs.Prelude.{◌≡◌, ℕ, ◌<◌, ◌≤◌, Bool, true, List, length, AllPairs, Contains}
use Rattle.aut_base.specs.Automaton.{Automaton, LabelledEdge}
use Rattle.aut_base.specs.Label.{holds_at, truth}
use Rattle.aut_base.specs.Word.{NameSet}

-- whether the letter meets the edge, of an automaton with these names
abbrev pub is_met : List (List ℕ) → NameSet → LabelledEdge → Bool
is_met names letter e = truth (holds_at names letter) e.label

-- no letter meets both edges
abbrev pub AreApart : List (List ℕ) → LabelledEdge → LabelledEdge → Type 0
AreApart names d e = (letter : NameSet) → is_met names letter d ≡ true → is_met names letter e ≡ true → ⊥

-- there is at most one start, and no letter meets two edges that leave one state
pub record IsDeterministic (a : Automaton) : Type 0 where
  pub start : length a.starts ≤ 1
  pub edges : AllPairs (λ d e. d.from ≡ e.from → AreApart a.names d e) a.edges

-- an edge for this letter from this state
pub record HasSuccessor (a : Automaton) (state : ℕ) (letter : NameSet) : Type 0 where
  pub edge : LabelledEdge
  pub is_edge : Contains a.edges edge
  pub from : edge.from ≡ state
  pub meets : is_met a.names letter edge ≡ true

-- there is a start, and at every state each letter meets some edge
pub record IsComplete (a : Automaton) : Type 0 where
  pub start : 0 < length a.starts
  pub edges : (state : ℕ) → state < a.states → (letter : NameSet) → HasSuccessor a state letter

-- At every state each letter meets exactly one edge, as with implicit labels (HOA v1).
pub record GoesOneWay (a : Automaton) : Type 0 where
  pub disjoint : AllPairs (λ d e. d.from ≡ e.from → AreApart a.names d e) a.edges
  pub on : (state : ℕ) → state < a.states → (letter : NameSet) → HasSuccessor a state letter
