use Rattle.std.proofs.Common.{◌≡◌, ◌+◌, ◌-◌, ℕ, [], get_or, length}
use Rattle.lasso_emptiness.proofs.groups.make_groups.Given as goal

abbrev pub invariant-numbers : goal.invariant-numbers
invariant-numbers l = (k : ℕ) → get_or l.groups.items k [] ≡ get_or l.fn.groups.items k []

abbrev pub decreases-numbers : goal.decreases-numbers
decreases-numbers l = l.number + 1 - length l.groups.items
