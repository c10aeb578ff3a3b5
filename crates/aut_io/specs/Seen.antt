-- What contracts see of inputs and sinks, as one value each, and what their calls do to it.
use Rattle.std.specs.Prelude.{◌≡◌, ℕ, ◌≤◌, List, Option, Some, Result, OnOk, OnErr, IsErrOf}
use Rattle.aut_base.specs.declared.fault.Failed.{Failed}
use Rattle.aut_base.specs.declared.fault.OpenFail.{OpenFail}
use Rattle.aut_base.specs.declared.fault.OpenFail.TheVariants as fail
use Rattle.aut_io.specs.InMemory.{SinkState, SourceState, TextState}
use Rattle.aut_io.specs.Outside.{Closed, Gains, GainsPrefix, Opened, Consumes, Rose, TakesByte, Texts}

-- What contracts see of inputs. The counts stay at the last value of a `u64` once they reach it.
pub record Seen : Type 0 where
  -- the texts by name, where contracts see them
  pub texts : Option Texts
  -- the unread rest of the open text, where contracts see it: empty where no text is open
  pub left : Option (List ℕ)
  -- how many times `open` was called
  pub openings : ℕ
  -- how many calls of `open` failed
  pub open_faults : ℕ
  -- how many calls of `next` failed
  pub read_faults : ℕ

-- A call of `open`: afterwards the text is open, or, after an error, none is. The call is counted. Where it fails, the count of failed
-- openings rises by one, except for want of memory.
pub record Opens (old : Seen) (name : List ℕ) (result : Result (Unit {0}) OpenFail) (new : Seen) : Type 0 where
  pub texts : new.texts ≡ old.texts
  pub counted : Rose old.openings new.openings
  pub opened : OnOk result (Opened old.texts name new.left)
  pub closed : OnErr result (Closed old.texts new.left)
  pub failed : IsErrOf result fail.Failed → Rose old.open_faults new.open_faults
  pub memory : IsErrOf result fail.Memory → new.open_faults ≡ old.open_faults
  pub calm : OnOk result (new.open_faults ≡ old.open_faults)
  pub later : old.open_faults ≤ new.open_faults
  pub reads : new.read_faults ≡ old.read_faults

-- A call of `next`: the next byte is taken. Where it fails, the count of failed reads rises by one.
pub record Nexts (old : Seen) (result : Result (Option ℕ) Failed) (new : Seen) : Type 0 where
  pub texts : new.texts ≡ old.texts
  pub takes : TakesByte old.left new.left result
  pub failed : OnErr result (Rose old.read_faults new.read_faults)
  pub calm : OnOk result (new.read_faults ≡ old.read_faults)
  pub later : old.read_faults ≤ new.read_faults
  pub openings : new.openings ≡ old.openings
  pub opens : new.open_faults ≡ old.open_faults

-- A call of `skip`: these bytes were taken, and no count changed.
pub record SkipsBytes (old : Seen) (bytes : List ℕ) (new : Seen) : Type 0 where
  pub texts : new.texts ≡ old.texts
  pub passes : Consumes old.left bytes new.left
  pub openings : new.openings ≡ old.openings
  pub opens : new.open_faults ≡ old.open_faults
  pub reads : new.read_faults ≡ old.read_faults

-- What contracts see of a sink: all that was written, where they see that, and how many writes failed.
pub record SinkSeen : Type 0 where
  pub written : Option (List ℕ)
  pub faults : ℕ

-- A call of `write`: the piece is written, or a prefix of it where the call fails. Then the count of failed writes rises by one.
pub record WritesPiece (old : SinkSeen) (piece : List ℕ) (result : Result (Unit {0}) Failed) (new : SinkSeen) : Type 0 where
  pub ok : OnOk result (Gains old.written new.written piece)
  pub err : OnErr result (GainsPrefix old.written new.written piece)
  pub failed : OnErr result (Rose old.faults new.faults)
  pub calm : OnOk result (new.faults ≡ old.faults)
  pub later : old.faults ≤ new.faults

-- what contracts see of a source in memory
abbrev pub seen_in_memory : SourceState → Seen
seen_in_memory m = record { texts = Some m.texts; left = Some m.left; openings = m.openings; open_faults = m.open_faults; read_faults = m.read_faults }

-- what they see of a source whose calls never fail
abbrev pub seen_of_sure : TextState → Seen
seen_of_sure s = record { texts = Some s.texts; left = Some s.left; openings = s.openings; open_faults = 0; read_faults = 0 }

abbrev pub sink_seen_of : SinkState → SinkSeen
sink_seen_of s = record { written = Some s.written; faults = s.faults }
