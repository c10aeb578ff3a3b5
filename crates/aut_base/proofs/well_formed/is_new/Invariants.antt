-- The starts compared so far differ from this one.
use Rattle.std.proofs.Common.{◌≢◌, ℕ, ◌<◌, get_or}
use Rattle.aut_base.proofs.well_formed.is_new.Given as goal

abbrev pub invariant-starts : goal.invariant-starts
invariant-starts l = (j : ℕ) → j < l.k → get_or l.starts j 0 ≢ get_or l.starts l.i 0
