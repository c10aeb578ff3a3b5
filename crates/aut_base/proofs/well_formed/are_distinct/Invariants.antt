-- Each start so far differs from the earlier ones.
use Rattle.std.proofs.Common.{ℕ, ◌<◌}
use Rattle.aut_base.specs.inner.Distinct.{DiffersFromEarlier}
use Rattle.aut_base.proofs.well_formed.are_distinct.Given as goal

abbrev pub invariant-starts : goal.invariant-starts
invariant-starts l = (i : ℕ) → i < l.i → DiffersFromEarlier l.starts i
