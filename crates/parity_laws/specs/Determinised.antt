-- A deterministic parity automaton whose states are the trees of a Büchi automaton (Safra 1988, Piterman 2007).
use Rattle.std.specs.Prelude.{◌≡◌, ◌+◌, ◌<◌, ◌≤◌, ◌↔◌, ℕ, true, List, [], ◌∷◌, Contains, length, slice_index_or}
use Rattle.aut_base.specs.Acceptance.{Accepts}
use Rattle.aut_base.specs.Automaton.{Automaton, LabelledEdge}
use Rattle.aut_base.specs.Word.{NameSet}
use Rattle.acc_forms.specs.Parity.{parity_min_odd}
use Rattle.aut_core.specs.Deterministic.{IsComplete, IsDeterministic, is_met}
use Rattle.safra_trees.specs.Trees.{Node, first_tree}
use Rattle.safra_laws.specs.Priorities.{priority}
use Rattle.safra_laws.specs.Rounds.{next_tree}
use Rattle.parity_laws.specs.Buchi.{IsBuchiForm, moves_at}

-- the tree of a state
abbrev pub tree_at : List (List Node) → ℕ → List Node
tree_at trees i = slice_index_or trees i []

-- the edge leads to the step of its state's tree under the moves of the letter, and has the priority of that step as its mark
pub record IsStepEdge (b : Automaton) (trees : List (List Node)) (most : ℕ) (x : NameSet) (e : LabelledEdge) : Type 0 where
  pub to : e.to < length trees
  pub tree : tree_at trees e.to ≡ next_tree b.states (moves_at b x) (tree_at trees e.from)
  pub marks : e.marks ≡ priority b.states most (moves_at b x) (tree_at trees e.from) ∷ []

-- The states of d are the indices of a list of trees with at most `most` nodes each, of which the first is that of the
-- starts. Each letter meets exactly one edge of each state, and that edge is a step. The condition is parity min odd.
pub record TracksTrees (b d : Automaton) (trees : List (List Node)) (most : ℕ) : Type 0 where
  pub states : d.states ≡ length trees
  pub starts : d.starts ≡ 0 ∷ []
  pub some : 0 < length trees
  pub first : tree_at trees 0 ≡ first_tree b.states b.starts
  pub few : (i : ℕ) → i < length trees → length (tree_at trees i) ≤ most
  pub steps : (e : LabelledEdge) (x : NameSet) → Contains d.edges e → is_met d.names x e ≡ true → IsStepEdge b trees most x e
  pub deterministic : IsDeterministic d
  pub complete : IsComplete d
  pub formula : d.formula ≡ parity_min_odd (most + most + 1)

-- d accepts just what b accepts.
abbrev pub DeterminisedAcceptsTheSame : Type 0
DeterminisedAcceptsTheSame = (b d : Automaton) (trees : List (List Node)) (most : ℕ) → IsBuchiForm b → TracksTrees b d trees most → (u v : List NameSet) → Accepts d u v ↔ Accepts b u v
