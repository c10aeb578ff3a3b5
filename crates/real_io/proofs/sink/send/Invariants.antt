-- The writer took the first `sent` bytes so far.
use Rattle.std.proofs.Common.{◌≡◌, ◌≤◌, ◌-◌, ◌^◌, length, take}
use Rattle.std.specs.Io.KnownBytes.{Appends}
use Rattle.real_io.proofs.sink.send.Given as goal

abbrev pub invariant-writes : goal.invariant-writes
invariant-writes g l = (l.sent ≤ length l.bytes) × Appends (g.W.Write.contents l.fn.writer) (g.W.Write.contents l.writer) (take l.sent l.bytes) × (l.refusals ≡ l.fn.refusals)

abbrev pub decreases-writes : goal.decreases-writes
decreases-writes g l = 2 ^ 64 - l.turns
