-- Accepting runs over lasso words, with the indices of their edges, and unambiguous automata.
use Rattle.std.specs.Prelude.{◌≡◌, ℕ, List, map, Some, slice_get}
use Rattle.aut_base.specs.Acceptance.{Accepts}
use Rattle.aut_base.specs.Automaton.{Automaton}
use Rattle.aut_base.specs.Word.{NameSet, nth}

-- a way in which the automaton accepts the word, with the indices of its edges in the automaton's list
pub record AcceptingRun (a : Automaton) (u v : List NameSet) : Type 0 where
  pub accepted : Accepts a u v
  pub path_edges : List ℕ
  pub cycle : List ℕ
  pub path_at : map (slice_get a.edges) path_edges ≡ map Some accepted.path_edges
  pub cycle_at : map (slice_get a.edges) cycle ≡ map Some accepted.cycle

-- Two accepting runs over one lasso word take the same edges. Edges are told apart by their index: an edge that is listed
-- twice counts as two.
abbrev pub IsUnambiguous : Automaton → Type 0
IsUnambiguous a = (u v : List NameSet) → (r t : AcceptingRun a u v) (n : ℕ) → nth r.path_edges r.cycle n ≡ nth t.path_edges t.cycle n
