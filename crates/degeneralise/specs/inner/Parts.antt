-- The number of a state at a level, and whether a condition is an Inf.
use Rattle.std.specs.Prelude.{ℕ, ◌+◌, ◌*◌, ◌==◌, Bool, not, length}
use Rattle.aut_base.specs.Formula.{FormulaTree}
use Rattle.degeneralise.specs.Buchi.{inf_literals}

-- the number of this state at this level, where each state has k numbers
abbrev pub state_at : ℕ → ℕ → ℕ → ℕ
state_at k state level = state * k + level

abbrev pub is_inf_atom : FormulaTree → Bool
is_inf_atom f = not (length (inf_literals f) == 0)
