-- The states of the sources and sinks in memory, as contracts see them.
use Rattle.std.specs.Prelude.{ℕ, ◌-◌, ◌/◌, ◌==◌, Bool, Option, None, Some, List, [], take, drop, length}
use Rattle.std.specs.List.{list_any, slice_index_or}
use Rattle.aut_io.specs.Outside.{Texts}

-- the texts of a source, the unread rest of the open one, and how many times `open` was called
pub record TextState : Type 0 where
  pub texts : Texts
  pub left : List ℕ
  pub openings : ℕ

-- A source in memory: `calls` were made so far, and those with a number in `failing` fail.
pub record SourceState : Type 0 where
  pub texts : Texts
  pub left : List ℕ
  pub openings : ℕ
  pub failing : List ℕ
  pub calls : ℕ
  pub open_faults : ℕ
  pub read_faults : ℕ

-- A sink in memory, which takes up to `capacity` bytes: `calls` were made so far, and those with a number in
-- `failing` fail.
pub record SinkState : Type 0 where
  pub written : List ℕ
  pub capacity : ℕ
  pub failing : List ℕ
  pub calls : ℕ
  pub faults : ℕ

-- the unread rest of the open text, given by its index, once `taken` bytes of it were taken; empty where none is open
abbrev pub rest_of : List (List ℕ) → Option ℕ → ℕ → List ℕ
rest_of texts None taken = []
rest_of texts (Some place) taken = drop taken (slice_index_or texts place [])

-- whether the call with this number fails
abbrev pub is_failing : List ℕ → ℕ → Bool
is_failing failing call = list_any (λ n. n == call) failing

-- what a write that is listed to fail still writes: the first half, rounded down
abbrev pub half : List ℕ → List ℕ
half piece = take (length piece / 2) piece

-- the unused capacity of a sink, in bytes
abbrev pub room : SinkState → ℕ
room sink = sink.capacity - length sink.written
