-- The event of a step, beside the new tree: the least red name, whose node is removed, and the least green one, whose
-- children are merged into it.
use Rattle.std.specs.Prelude.{◌<◌, ℕ, All, List, Option, length, slice_get}
use Rattle.safra_trees.specs.Step.{greens, grown, reds}
use Rattle.safra_trees.specs.Trees.{Node, root_states}
use Rattle.safra_trees.specs.declared.event.Event.{Event}
use Rattle.safra_trees.specs.declared.moves.Move.{Move}

-- both ends of the move are among the n states
pub record IsMoveInRange (n : ℕ) (move : Move) : Type 0 where
  pub from : move.from < n
  pub to : move.to < n

-- all states of the tree and all ends of the moves are among n states
pub record AreStates (n : ℕ) (ms : List Move) (t : List Node) : Type 0 where
  pub states : All (λ s. s < n) (root_states t)
  pub moves : All (IsMoveInRange n) ms

-- the least of numbers in rising order, if there are any
abbrev pub least : List ℕ → Option ℕ
least names = slice_get names 0

-- red are the names of the old tree whose nodes don't survive, and green the names whose nodes survive and are covered by
-- their children
abbrev pub event_of : ℕ → List Move → List Node → Event
event_of n moves tree = record { red = least (reds (grown n moves tree) (length tree)); green = least (greens (grown n moves tree)) }
