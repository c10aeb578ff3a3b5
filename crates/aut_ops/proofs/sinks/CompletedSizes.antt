-- Bounds on the numbers of states and sets of a completion, which a caller of `complete` has to know.
use Rattle.std.proofs.Common.{◌+◌, ◌≤◌, ℕ, Bool, true, false, cond, arith}
use Rattle.aut_base.specs.Automaton.{Automaton}
use Rattle.aut_ops.specs.Completion.{completed, is_met_unmarked, lacks_nothing, with_sink}

pub completed_states : (a : Automaton) → (completed a).states ≤ a.states + 1
completed_states a = by_cases (lacks_nothing a)
  where
    by_cases : (b : Bool) → (cond b a (with_sink a)).states ≤ a.states + 1
    by_cases true = omega arith
    by_cases false = omega arith

more_sets : (k : ℕ) (b : Bool) → cond b (k + 1) k ≤ k + 1
more_sets k true = omega arith
more_sets k false = omega arith

pub completed_sets : (a : Automaton) → (completed a).sets ≤ a.sets + 1
completed_sets a = by_cases (lacks_nothing a)
  where
    by_cases : (b : Bool) → (cond b a (with_sink a)).sets ≤ a.sets + 1
    by_cases true = omega arith
    by_cases false = more_sets a.sets (is_met_unmarked a.formula)
