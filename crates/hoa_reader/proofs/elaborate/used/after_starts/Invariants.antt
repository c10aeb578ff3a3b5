use Rattle.std.proofs.Common.{◌≡◌, max, drop}
use Rattle.hoa_reader.specs.inner.Numbers.{after_all}
use Rattle.hoa_reader.specs.inner.PickedOut.{starts_named}
use Rattle.hoa_reader.proofs.elaborate.used.after_starts.Given as goal

abbrev pub invariant-starts : goal.invariant-starts
invariant-starts l = max l.after (after_all (starts_named (drop l.states-index l.starts))) ≡ max l.least (after_all (starts_named l.starts))
