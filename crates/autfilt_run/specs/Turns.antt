-- What one step of a session does.
use Rattle.std.specs.Prelude.{◌≡◌, ℕ, ◌+◌, ◌<◌, ◌⊎◌, Bool, true, false, List, [], length, slice_get, Some, None, Result, Ok, Err, IfOk, OnErr, OnOk}
use Rattle.aut_base.specs.declared.fault.OpenFail.{OpenFail}
use Rattle.aut_base.specs.declared.fault.OpenFail.TheVariants as opening
use Rattle.aut_base.specs.declared.limit.Limit.{Limit}
use Rattle.aut_base.specs.declared.limit.Limit.TheVariants as limit
use Rattle.aut_io.specs.Outside.{Gains, GainsPrefix, Rose}
use Rattle.aut_io.specs.Seen.{Opens, Seen, SinkSeen}
use Rattle.autfilt_run.specs.Due.{IsDue}
use Rattle.autfilt_run.specs.Events.{IsGood}
use Rattle.autfilt_run.specs.Over.{IsOverLimit}
use Rattle.autfilt_run.specs.Plans.{asks_on, prints_each, plan_streams}
use Rattle.autfilt_run.specs.Points.{name_in, operands_in}
use Rattle.autfilt_run.specs.Runs.{StopsReading, WantsMemory}
use Rattle.autfilt_run.specs.declared.fault.RunFault.{RunFault}
use Rattle.autfilt_run.specs.declared.fault.RunFault.TheVariants as fault
use Rattle.autfilt_run.specs.declared.session.Session.{Session}
use Rattle.autfilt_run.specs.declared.session.Turn.{Turn}
use Rattle.autfilt_run.specs.declared.session.Turn.TheVariants as turn
use Rattle.hoa_lexer.specs.Blanks.{IsBlanks}
use Rattle.hoa_lexer.specs.Moves.{MovesLexer, Stop, AtEnd, AtFault, AtMost, Elsewhere}
use Rattle.hoa_lexer.specs.Reading.{Between}
use Rattle.hoa_parser.specs.Raw.{Written}
use Rattle.hoa_parser.specs.Standing.{Aborted, Stands}
use Rattle.hoa_reader.specs.Described.{described}
use Rattle.plan_meaning.specs.Filters.{IsDropped, IsKept}

-- ---- what a session has done

-- How far a session has come: how many streams were opened, whether the last one is open, how many automata were kept, and
-- how many skipped.
pub record Progress : Type 0 where
  pub opened : ℕ
  pub is_open : Bool
  pub kept : ℕ
  pub skipped : ℕ

abbrev pub progress : Session → Progress
progress s = record { opened = s.opened; is_open = s.is_open; kept = s.kept; skipped = s.skipped }

abbrev pub asks : Session → Bool
asks s = asks_on s.plan s.kept

-- fewer automata were kept than are asked for, and a stream is open
pub record IsReading (s : Session) : Type 0 where
  pub asks : asks s ≡ true
  pub is_open : s.is_open ≡ true

-- fewer were kept than are asked for, no stream is open, and the next one has this name
pub record IsOpening (s : Session) (name : List ℕ) : Type 0 where
  pub asks : asks s ≡ true
  pub is_closed : s.is_open ≡ false
  pub named : slice_get (plan_streams s.plan) s.opened ≡ Some name

-- As many automata were kept as are asked for, or there is nothing left to read.
abbrev pub IsDoneWith : Session → Type 0
IsDoneWith s = (asks s ≡ false) ⊎ ((s.is_open ≡ false) × (s.opened ≡ length (plan_streams s.plan)))

-- ---- inputs and sinks

-- no input or sink is touched
pub record IsStill (seen seen' : Seen) (out out' : SinkSeen) : Type 0 where
  pub inputs : seen' ≡ seen
  pub output : out' ≡ out

-- A stream is opened, or its opening fails. Memory may be wanting before it is tried.
abbrev pub OpensNext : Seen → List ℕ → Result (Unit {0}) OpenFail → Seen → Type 0
OpensNext seen name (Err opening.Memory) seen' = (seen' ≡ seen) ⊎ Opens seen name (Err opening.Memory) seen'
OpensNext seen name r seen' = Opens seen name r seen'

-- only blanks are left
abbrev pub IsAllRead : List ℕ → List ℕ → Type 0
IsAllRead rest left = IsBlanks rest × (left ≡ [])

-- How a fault relates to the limit of bytes: that limit is reported where another byte is asked for after that many were
-- taken, and the end of a text is seen by asking, too.
abbrev pub stop_of_limit : Limit → Stop
stop_of_limit limit.Bytes = AtMost
stop_of_limit _ = Elsewhere

abbrev pub stop_of_run_fault : RunFault → Stop
stop_of_run_fault fault.Truncated = AtEnd
stop_of_run_fault fault.ReadFault = AtFault
stop_of_run_fault (fault.Limit which) = stop_of_limit which
stop_of_run_fault _ = Elsewhere

-- The open stream is read: `stands` holds of what the inputs had left before and have left after. Nothing is written.
pub record ReadsInputs (stop : Stop) (stands : List ℕ → List ℕ → Type 0) (old new : Session) (seen seen' : Seen) (out out' : SinkSeen) : Type 0 where
  pub reading : IsReading old
  pub in_hand : new.tried ≡ old.tried
  pub read : Between seen.left seen'.left stands
  pub moves : MovesLexer stop old.lexer new.lexer seen seen'
  pub output : out' ≡ out

-- An automaton was read and kept, and the text that is due of it was written.
pub record KeepsAutomaton (old new : Session) (seen seen' : Seen) (out out' : SinkSeen) : Type 0 where
  pub reading : IsReading old
  pub in_hand : new.tried ≡ old.tried
  pub automaton : Written
  pub text : List ℕ
  pub read : Between seen.left seen'.left (λ rest next. IsGood old.lexer.since rest automaton next)
  pub kept : IsKept old.plan (operands_in old) (described automaton)
  pub due : IsDue old.plan (operands_in old) automaton text
  pub moves : MovesLexer Elsewhere old.lexer new.lexer seen seen'
  pub gains : Gains out.written out'.written text
  pub writes : out'.faults ≡ out.faults

-- An automaton was read and is to be kept, but its text could not be written whole.
pub record KeepsInPart (old new : Session) (seen seen' : Seen) (out out' : SinkSeen) : Type 0 where
  pub prints : prints_each old.plan ≡ true
  pub reading : IsReading old
  pub in_hand : new.tried ≡ old.tried
  pub automaton : Written
  pub text : List ℕ
  pub read : Between seen.left seen'.left (λ rest next. IsGood old.lexer.since rest automaton next)
  pub kept : IsKept old.plan (operands_in old) (described automaton)
  pub due : IsDue old.plan (operands_in old) automaton text
  pub moves : MovesLexer Elsewhere old.lexer new.lexer seen seen'
  pub gains : GainsPrefix out.written out'.written text
  pub writes : Rose out.faults out'.faults

-- An automaton was read and dropped. Nothing is written.
pub record Drops (old new : Session) (seen seen' : Seen) (out out' : SinkSeen) : Type 0 where
  pub automaton : Written
  pub dropped : IsDropped old.plan (operands_in old) (described automaton)
  pub reads : ReadsInputs Elsewhere (λ rest next. IsGood old.lexer.since rest automaton next) old new seen seen' out out'

-- The lexer begins a new text.
pub record BeginsText (old new : Session) : Type 0 where
  pub most : new.lexer.most ≡ old.lexer.most
  pub taken : new.lexer.taken ≡ old.lexer.taken
  pub since : new.lexer.since ≡ 0

-- An opening of the next stream is tried. Nothing is written.
pub record TriesStream (r : Result (Unit {0}) OpenFail) (old new : Session) (seen seen' : Seen) (out out' : SinkSeen) : Type 0 where
  pub name : List ℕ
  pub opening : IsOpening old name
  pub in_hand : name_in new ≡ name
  pub opens : OpensNext seen name r seen'
  pub begins : BeginsText old new
  pub output : out' ≡ out

-- ---- the answers

-- what each turn means
abbrev pub Turns : Turn → Session → Session → Seen → Seen → SinkSeen → SinkSeen → Type 0
Turns turn.Done old new seen seen' out out' = IsDoneWith old × IsStill seen seen' out out' × (new.tried ≡ old.tried)
Turns turn.Opened old new seen seen' out out' = TriesStream (Ok tt) old new seen seen' out out'
Turns turn.StreamEnd old new seen seen' out out' = ReadsInputs AtEnd IsAllRead old new seen seen' out out'
Turns turn.Kept old new seen seen' out out' = KeepsAutomaton old new seen seen' out out'
Turns turn.Dropped old new seen seen' out out' = Drops old new seen seen' out out'
Turns turn.Skipped old new seen seen' out out' = ReadsInputs Elsewhere (λ rest next. Stands (Aborted next) old.lexer.since rest) old new seen seen' out out'

-- what each fault means
abbrev pub FailsAfter : RunFault → Session → Session → Seen → Seen → SinkSeen → SinkSeen → Type 0
FailsAfter fault.CannotOpen old new seen seen' out out' = TriesStream (Err opening.Failed) old new seen seen' out out'
FailsAfter fault.WriteFault old new seen seen' out out' = KeepsInPart old new seen seen' out out'
FailsAfter fault.Memory old new seen seen' out out' =
    TriesStream (Err opening.Memory) old new seen seen' out out' ⊎ ReadsInputs Elsewhere (WantsMemory old.lexer.since) old new seen seen' out out'
FailsAfter f old new seen seen' out out' = ReadsInputs (stop_of_run_fault f) (StopsReading (λ which w. IsOverLimit which old.plan (operands_in old) w) f old.lexer.since) old new seen seen' out out'

abbrev pub StepsSession : Result Turn RunFault → Session → Session → Seen → Seen → SinkSeen → SinkSeen → Type 0
StepsSession (Ok t) = Turns t
StepsSession (Err f) = FailsAfter f

-- a step that reads an automaton takes bytes, also where the inputs' texts aren't known
abbrev pub Rises : Turn → ℕ → ℕ → Type 0
Rises turn.Kept before progress_after = before < progress_after
Rises turn.Dropped before progress_after = before < progress_after
Rises turn.Skipped before progress_after = before < progress_after
Rises _ before progress_after = Unit {0}

-- what the session has done after a turn
abbrev pub progress_after : Turn → Progress → Progress
progress_after turn.Done p = p
progress_after turn.Opened p = record p { opened = p.opened + 1; is_open = true }
progress_after turn.StreamEnd p = record p { is_open = false }
progress_after turn.Kept p = record p { kept = p.kept + 1 }
progress_after turn.Dropped p = p
progress_after turn.Skipped p = record p { skipped = p.skipped + 1 }

-- One step, whatever it answers: what happened, and the session after it. A fault changes none of its counts.
pub record IsStep (r : Result Turn RunFault) (old new : Session) (seen seen' : Seen) (out out' : SinkSeen) : Type 0 where
  pub steps : StepsSession r old new seen seen' out out'
  pub plan : new.plan ≡ old.plan
  pub operands : new.operands ≡ old.operands
  pub most : new.lexer.most ≡ old.lexer.most
  pub rises : IfOk r (λ turn. Rises turn old.lexer.taken new.lexer.taken)
  pub counts : IfOk r (λ turn. progress new ≡ progress_after turn (progress old))
  pub failed : OnErr r (progress new ≡ progress old)
  pub spent : OnOk r (new.lexer.spent ≡ false)
  pub held : OnOk r (new.lexer.held ≡ None)

-- The number, where it is due, was written, or a prefix of it where the write failed.
abbrev pub WritesCount : Result (Unit {0}) RunFault → List ℕ → SinkSeen → SinkSeen → Type 0
WritesCount (Ok done) text out out' = Gains out.written out'.written text × (out'.faults ≡ out.faults)
WritesCount (Err fault.WriteFault) text out out' = GainsPrefix out.written out'.written text × Rose out.faults out'.faults
WritesCount (Err f) text out out' = ⊥
