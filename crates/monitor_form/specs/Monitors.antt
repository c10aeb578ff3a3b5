-- Live states, subset constructions by the list of their sets of states, and the laws of monitors on the language of these.
use Rattle.std.specs.Prelude.{◌≡◌, ◌↔◌, ℕ, ◌<◌, false, true, List, [], ◌∷◌, Contains, length, map}
use Rattle.std.specs.List.{slice_index_or}
use Rattle.aut_base.specs.Acceptance.{IsPath}
use Rattle.aut_base.specs.Automaton.{Automaton, IsWellFormed, LabelledEdge}
use Rattle.aut_base.specs.Formula.{FormulaTree, Inf, met}
use Rattle.aut_base.specs.Label.{holds_at, truth}
use Rattle.aut_base.specs.Word.{NameSet}
use Rattle.aut_ops.specs.Pruning.{IsPruned}
use Rattle.monitor_form.specs.Prefixes.{AcceptsPrefixes}

-- some accepted lasso word can be read from the state on
pub record IsLive (b : Automaton) (q : ℕ) : Type 0 where
  pub stem : List NameSet
  pub round : List NameSet
  pub some : 0 < length round
  pub state : ℕ
  pub path_edges : List LabelledEdge
  pub cycle : List LabelledEdge
  pub leads : IsPath b q stem path_edges state
  pub returns : IsPath b state round cycle state
  pub meets : met (map (λ e. e.marks) cycle) b.formula ≡ true

-- each start is live, and so is each state that an edge leads to
pub record AreLive (b : Automaton) : Type 0 where
  pub starts : (s : ℕ) → Contains b.starts s → IsLive b s
  pub ends : (e : LabelledEdge) → Contains b.edges e → IsLive b e.to

-- an edge that the letter meets leads from a state of the set to this one
pub record IsGoal (b : Automaton) (set : List ℕ) (x : NameSet) (q : ℕ) : Type 0 where
  pub edge : LabelledEdge
  pub there : Contains b.edges edge
  pub from : Contains set edge.from
  pub allowed : truth (holds_at b.names x) edge.label ≡ true
  pub to : edge.to ≡ q

-- the set of this index
abbrev pub set_at : List (List ℕ) → ℕ → List ℕ
set_at sets i = slice_index_or sets i []

-- set j has the successors of set i at the letter, and isn't empty
pub record IsMove (b : Automaton) (sets : List (List ℕ)) (x : NameSet) (i j : ℕ) : Type 0 where
  pub below : j < length sets
  pub goals : (q : ℕ) → Contains (set_at sets j) q ↔ IsGoal b (set_at sets i) x q
  pub some : ℕ
  pub there : Contains (set_at sets j) some

-- the letter meets an edge from state i
pub record HasEdge (m : Automaton) (i : ℕ) (x : NameSet) : Type 0 where
  pub edge : LabelledEdge
  pub there : Contains m.edges edge
  pub from : edge.from ≡ i
  pub allowed : truth (holds_at m.names x) edge.label ≡ true

-- state 0, if there is a start
abbrev pub first_places : List ℕ → List ℕ
first_places [] = []
first_places (s ∷ ss) = 0 ∷ []

-- m is a subset construction of b: its states are the indices of the list of sets, and after a prefix it is in the set of
-- all states that b can be in. It has no edge where that set is empty.
pub record TracksSubsets (b m : Automaton) (sets : List (List ℕ)) : Type 0 where
  pub starts : m.starts ≡ first_places b.starts
  pub first : (q : ℕ) → Contains (set_at sets 0) q ↔ Contains b.starts q
  pub steps : (e : LabelledEdge) (x : NameSet) → Contains m.edges e → truth (holds_at m.names x) e.label ≡ true → IsMove b sets x e.from e.to
  pub total : (i : ℕ) (x : NameSet) (q : ℕ) → i < length sets → IsGoal b (set_at sets i) x q → HasEdge m i x
  pub formula : m.formula ≡ FormulaTree.True

-- The subset construction of an automaton whose states are live accepts just the words each of whose prefixes is a prefix
-- of some accepted word.
abbrev pub MonitorAccepts : Type 0
MonitorAccepts = (b m : Automaton) (sets : List (List ℕ)) → AreLive b → TracksSubsets b m sets → AcceptsPrefixes m b

-- The states of a pruned automaton are live.
abbrev pub PrunedAreLive : Type 0
PrunedAreLive = (a made : Automaton) → IsWellFormed a → a.formula ≡ Inf 0 false → IsPruned a made → AreLive made
