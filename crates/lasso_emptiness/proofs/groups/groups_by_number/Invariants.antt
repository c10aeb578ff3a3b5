-- Each group has the edges so far that are inside of the component of its number.
use Rattle.std.proofs.Common.{◌≡◌, ℕ, [], get_or, take}
use Rattle.std.specs.List.{filter}
use Rattle.lasso_emptiness.specs.inner.Groups.{is_inside}
use Rattle.lasso_emptiness.proofs.groups.groups_by_number.Given as goal

abbrev pub invariant-edges : goal.invariant-edges
invariant-edges l = (k : ℕ) → get_or l.groups.items k [] ≡ filter (is_inside l.numbers k) (take l.edge-index l.edges)
