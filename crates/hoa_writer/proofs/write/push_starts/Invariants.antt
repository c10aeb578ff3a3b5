-- The starts so far are written.
use Rattle.std.proofs.Common.{◌≡◌, ◌++◌, take}
use Rattle.hoa_writer.specs.inner.Lines.{start_lines}
use Rattle.hoa_writer.proofs.write.push_starts.Given as goal

abbrev pub invariant-starts : goal.invariant-starts
invariant-starts l = l.out ≡ l.initial.out ++ start_lines (take l.start-index l.starts)
