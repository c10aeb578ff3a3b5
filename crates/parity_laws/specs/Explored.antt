-- Determinisation class by class: one edge for all letters that the labels of the edges from the root's states don't tell
-- apart.
use Rattle.std.specs.Prelude.{◌≡◌, ◌+◌, ◌<◌, ◌≤◌, ◌&&◌, ℕ, Bool, List, [], ◌∷◌, Contains, filter, length, map, slice_index_or}
use Rattle.std.specs.List.{range_with_len}
use Rattle.aut_base.specs.Automaton.{Automaton, LabelledEdge}
use Rattle.aut_base.specs.Label.{LabelTree, True, truth}
use Rattle.acc_forms.specs.Parity.{parity_min_odd}
use Rattle.aut_core.specs.Surveys.{edges_from}
use Rattle.safra_trees.specs.Step.{IsTree}
use Rattle.safra_trees.specs.Trees.{Node, first_tree, holds}
use Rattle.safra_trees.specs.declared.moves.Move.{Move}
use Rattle.safra_laws.specs.Priorities.{priority}
use Rattle.safra_laws.specs.Rounds.{next_tree}
use Rattle.parity_laws.specs.Buchi.{move_of}
use Rattle.parity_laws.specs.Classes.{AreClassesOf, MeetsClass}
use Rattle.parity_laws.specs.Determinised.{TracksTrees, tree_at}

-- the labels of the edges that leave the states of the root
abbrev pub root_labels : Automaton → List Node → List LabelTree
root_labels b t = map (λ e. e.label) (filter (λ e. holds t 0 e.from) b.edges)

-- the moves of those edges whose labels are true
abbrev pub root_moves : Automaton → List Node → (ℕ → Bool) → List Move
root_moves b t on = map move_of (filter (λ e. holds t 0 e.from && truth on e.label) b.edges)

-- the edge of a state for a class: it has the label of the class, and as its mark the priority of the step under these
-- moves
abbrev pub tree_class_edge : Automaton → List Node → ℕ → ℕ → LabelTree → ℕ → List Move → LabelledEdge
tree_class_edge b t most i label to moves = record { from = i; label = label; to = to; marks = priority b.states most moves t ∷ [] }

-- The edges of state i of d: one for each class of valuations under the root's labels, in the order of the classes. It
-- leads to the step of the state's tree under the moves of the class, which are those at some valuation in it.
pub record IsExpanded (b d : Automaton) (trees : List (List Node)) (most i : ℕ) : Type 0 where
  pub classes : List LabelTree
  pub are : AreClassesOf (root_labels b (tree_at trees i)) classes
  pub valuation : ℕ → ℕ → Bool
  pub met : (k : ℕ) → k < length classes → MeetsClass classes (valuation k) k
  pub to : ℕ → ℕ
  pub below : (k : ℕ) → k < length classes → to k < length trees
  pub tree : (k : ℕ) → k < length classes → tree_at trees (to k) ≡ next_tree b.states (root_moves b (tree_at trees i) (valuation k)) (tree_at trees i)
  pub edges : edges_from i d.edges
      ≡ map (λ k. tree_class_edge b (tree_at trees i) most i (slice_index_or classes k True) (to k) (root_moves b (tree_at trees i) (valuation k))) (range_with_len 0 (length classes))

-- The states of d are the indices of a list of trees, of which the first is that of the starts; each state is expanded
-- class by class.
pub record IsTreeExploration (b d : Automaton) (trees : List (List Node)) (most : ℕ) : Type 0 where
  pub names : d.names ≡ b.names
  pub states : d.states ≡ length trees
  pub starts : d.starts ≡ 0 ∷ []
  pub some : 0 < length trees
  pub first : tree_at trees 0 ≡ first_tree b.states b.starts
  pub are_trees : (i : ℕ) → i < length trees → IsTree (tree_at trees i)
  pub few : (i : ℕ) → i < length trees → length (tree_at trees i) ≤ most
  pub from : (e : LabelledEdge) → Contains d.edges e → e.from < length trees
  pub expanded : (i : ℕ) → i < length trees → IsExpanded b d trees most i
  pub formula : d.formula ≡ parity_min_odd (most + most + 1)

-- Then d is deterministic and complete, and its edges are steps under each letter that meets them.
abbrev pub ExploredIsDeterminised : Type 0
ExploredIsDeterminised = (b d : Automaton) (trees : List (List Node)) (most : ℕ) → IsTreeExploration b d trees most → TracksTrees b d trees most
