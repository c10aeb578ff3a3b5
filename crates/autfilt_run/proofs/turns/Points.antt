-- The points that events lead to.
use Rattle.std.proofs.Common.{ℕ, ◌+◌, List, [], length, Some, None}
use Rattle.autfilt_run.specs.Events.{Point, Stream, bytes_before}

-- where more was read of the open stream
abbrev pub read_on : Point → Stream → List ℕ → ℕ → Point
read_on p s next kept = record p { stream = Some (record s { rest = next }); left = Some next; kept = kept }

-- where the open stream was read to its end
abbrev pub at_stream_end : Point → Stream → Point
at_stream_end p s = record p { stream = None; left = Some []; before = p.before + length s.text }

-- where an operand was taken of the open file
abbrev pub taken_at : Point → Stream → List ℕ → Point
taken_at p s next = record p { stream = None; left = Some next; before = p.before + bytes_before s.text next }
