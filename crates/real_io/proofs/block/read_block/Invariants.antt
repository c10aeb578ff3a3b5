-- None of the reads so far gave a byte.
use Rattle.std.proofs.Common.{◌≡◌, ◌-◌, ◌^◌, length}
use Rattle.std.specs.Io.KnownBytes.{Keeps}
use Rattle.real_io.proofs.block.read_block.Given as goal

abbrev pub invariant-tries : goal.invariant-tries
invariant-tries g l = Keeps (g.R.Read.remaining l.initial.reader) (g.R.Read.remaining l.reader) × (length l.block ≡ length l.initial.block) × (l.refusals ≡ l.initial.refusals)

abbrev pub decreases-tries : goal.decreases-tries
decreases-tries g l = 2 ^ 64 - l.turns
