use Rattle.std.proofs.Common.{◌<◌, ℕ, get_or}
use Rattle.safra_trees.specs.Events.{IsMoveInRange}
use Rattle.safra_trees.specs.declared.moves.Move.{Move}
use Rattle.tree_rows.proofs.automata.are_within.Given as goal

abbrev pub invariant-moves : goal.invariant-moves
invariant-moves l = (k : ℕ) (d : Move) → k < l.one-index → IsMoveInRange l.states (get_or l.moves k d)
