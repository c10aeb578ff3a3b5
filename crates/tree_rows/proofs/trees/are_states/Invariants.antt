use Rattle.std.proofs.Common.{◌<◌, ℕ, get_or}
use Rattle.tree_rows.proofs.trees.are_states.Given as goal

abbrev pub invariant-states : goal.invariant-states
invariant-states l = (k d : ℕ) → k < l.state-index → get_or l.listed k d < l.states
