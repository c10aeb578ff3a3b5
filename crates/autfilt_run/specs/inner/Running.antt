-- Invariants of the loops over operands and over steps.
use Rattle.std.specs.Prelude.{◌≡◌, ◌≢◌, ◌⊎◌, ℕ, ◌++◌, Bool, false, List, [], flat_map, length, take, Option, Some, Result, Ok, Err, fold}
use Rattle.aut_io.specs.Outside.{Gains, GainsPrefix, Rose, Texts}
use Rattle.aut_io.specs.Seen.{Seen, SinkSeen}
use Rattle.autfilt_run.specs.Ends.{ended_of}
use Rattle.autfilt_run.specs.Noted.{HasNoted, Notes}
use Rattle.autfilt_run.specs.Notes.{aborted_line, line_of}
use Rattle.autfilt_run.specs.Run.{EndsBecause, EndsInOperands, Runs, WantsOperandFile, end_of, noted_of}
use Rattle.autfilt_run.specs.declared.ended.End.{End}
use Rattle.autfilt_run.specs.declared.ended.End.TheVariants as end
use Rattle.autfilt_run.specs.Events.{AreJudged, Event, Happen, Point, Tally, all_written, open_by, opened_streams, start_of, tally}
use Rattle.autfilt_run.specs.Openings.{AreOpened, AreTried}
use Rattle.autfilt_run.specs.OperandEvents.{AreRead, OperandEvent, all_passed, file_open_by, opened_files, operands_read}
use Rattle.autfilt_run.specs.Plans.{plan_streams}
use Rattle.autfilt_run.specs.Points.{StandsInStreams, StandsIn, operands_in}
use Rattle.autfilt_run.specs.Preparing.{CountsAt, opened_names}
use Rattle.autfilt_run.specs.declared.fault.RunFault.{RunFault}
use Rattle.autfilt_run.specs.declared.fault.RunFault.TheVariants as run
use Rattle.autfilt_run.specs.declared.session.Session.{Session}
use Rattle.autfilt_run.specs.declared.session.Stage.TheVariants.{New, Prepared}
use Rattle.autfilt_run.specs.declared.session.Turn.{Turn}
use Rattle.autfilt_run.specs.declared.session.Turn.TheVariants as turn
use Rattle.filter_plan.specs.Words.{operands}
use Rattle.filter_plan.specs.declared.plan.Plan.{Plan}

-- what is noted of the automata that are skipped in the streams, and in the files of operands
abbrev pub all_noted : List Event → List ℕ
all_noted = flat_map noted_of

abbrev pub passed_noted : List (List ℕ) → List ℕ
passed_noted = flat_map aborted_line

-- no count of I/O faults rose
pub record AreCalm (seen seen' : Seen) (out out' : SinkSeen) : Type 0 where
  pub opens : seen'.open_faults ≡ seen.open_faults
  pub reads : seen'.read_faults ≡ seen.read_faults
  pub writes : out'.faults ≡ out.faults

-- no count of the inputs' faults rose
pub record AreCalmInputs (seen seen' : Seen) : Type 0 where
  pub opens : seen'.open_faults ≡ seen.open_faults
  pub reads : seen'.read_faults ≡ seen.read_faults

-- ---- before the streams

-- a session of which no call was made
pub record IsNew (s : Session) : Type 0 where
  pub stage : s.stage ≡ New
  pub opened : s.opened ≡ 0
  pub is_closed : s.is_open ≡ false
  pub none : s.operands ≡ []
  pub kept : s.kept ≡ 0
  pub skipped : s.skipped ≡ 0
  pub taken : s.lexer.taken ≡ 0

-- Some operands of the plan were read, and the automata skipped in their files were noted.
pub record HasPrepared (plan : Plan) (s : Session) (seen seen' : Seen) (notes notes' : SinkSeen) (noting : Bool) : Type 0 where
  pub taken : List OperandEvent
  pub same_plan : s.plan ≡ plan
  pub operands_are : operands_in s ≡ operands_read taken
  pub skipped : s.skipped ≡ length (all_passed taken)
  pub happened : (texts : Texts) → seen.texts ≡ Some texts → (p : Point) × AreRead texts taken (start_of (operands plan) seen.left 0) p × StandsIn s seen'.left p
  pub noted : HasNoted (passed_noted (all_passed taken)) noting notes notes'
  pub named : opened_names s ≡ opened_files taken
  pub still : s.is_open ≡ fold file_open_by false taken
  pub openings : AreOpened (length (opened_files taken)) seen seen'
  pub calm : AreCalmInputs seen seen'
  pub texts : seen'.texts ≡ seen.texts
  pub opened : s.opened ≡ 0
  pub kept : s.kept ≡ 0

-- The invariant of the loop over operands.
pub record IsPreparing (plan : Plan) (s : Session) (seen seen' : Seen) (notes notes' : SinkSeen) (noting : Bool) : Type 0 where
  pub prepared : HasPrepared plan s seen seen' notes notes' noting
  pub stage : s.stage ≡ New

-- all operands are read
pub record IsPrepared (plan : Plan) (s : Session) (seen seen' : Seen) (notes notes' : SinkSeen) (noting : Bool) : Type 0 where
  pub prepared : HasPrepared plan s seen seen' notes notes' noting
  pub stage : s.stage ≡ Prepared
  pub closed : s.is_open ≡ false

-- A fault came while operands were read, and was noted.
pub record FailsPreparing (plan : Plan) (e : End) (seen seen' : Seen) (notes notes' : SinkSeen) : Type 0 where
  pub taken : List OperandEvent
  pub name : List ℕ
  pub fault : RunFault
  pub ends : e ≡ end.Fault fault
  pub no_write : fault ≢ run.WriteFault
  pub happened : (texts : Texts) → seen.texts ≡ Some texts → EndsInOperands plan texts seen.left seen'.left taken fault name
  pub noted : Notes (passed_noted (all_passed taken) ++ line_of e name) notes notes'
  pub counts : CountsAt fault seen seen'
  pub named : (k : ℕ) × (opened_files taken ≡ take k (operands plan))
  pub openings : AreTried e (WantsOperandFile plan taken) (length (opened_files taken)) seen seen'

-- what preparing answers: whether notes are still taken, or how the run ended
abbrev pub Preparing : Result Bool End → Plan → Session → Seen → Seen → SinkSeen → SinkSeen → Type 0
Preparing (Ok noting) plan s seen seen' notes notes' = IsPrepared plan s seen seen' notes notes' noting
Preparing (Err e) plan s seen seen' notes notes' = FailsPreparing plan e seen seen' notes notes'

-- ---- in the streams

-- a session that was prepared and has taken no step
pub record IsFresh (s : Session) : Type 0 where
  pub stage : s.stage ≡ Prepared
  pub opened : s.opened ≡ 0
  pub is_closed : s.is_open ≡ false
  pub kept : s.kept ≡ 0

-- the line that is noted of a step in the text of this name
abbrev pub turn_line : Turn → List ℕ → List ℕ
turn_line turn.Opened name = []
turn_line turn.Kept name = []
turn_line turn.Dropped name = []
turn_line turn.Skipped name = aborted_line name
turn_line turn.StreamEnd name = []
turn_line turn.Done name = []

-- the point that a run is at after the events
pub record Reached (plan : Plan) (before : ℕ) (texts : Texts) (events : List Event) (first left : Option (List ℕ)) (s : Session) : Type 0 where
  pub point : Point
  pub happen : Happen plan texts events (start_of (plan_streams plan) first before) point
  pub stands : StandsInStreams s left point

-- Events happened since the session was fresh; what is due of them was written, and skipped automata were noted.
pub record HasRunEvents (fresh s : Session) (seen seen' : Seen) (out out' notes notes' : SinkSeen) (first noting : Bool) : Type 0 where
  pub events : List Event
  pub same_plan : s.plan ≡ fresh.plan
  pub same_operands : s.operands ≡ fresh.operands
  pub judged : AreJudged fresh.plan (operands_in fresh) events
  pub happened : (texts : Texts) → seen.texts ≡ Some texts → Reached fresh.plan fresh.lexer.taken texts events seen.left seen'.left s
  pub gains : Gains out.written out'.written (all_written events)
  pub noted : (sink : SinkSeen) (text : List ℕ) → HasNoted text first sink notes → HasNoted (text ++ all_noted events) noting sink notes'
  pub tallied : tally fresh.skipped events ≡ record { kept = s.kept; skipped = s.skipped }
  pub named : opened_streams events ≡ take s.opened (plan_streams fresh.plan)
  pub still : s.is_open ≡ fold open_by false events
  pub openings : AreOpened (length (opened_streams events)) seen seen'
  pub calm : AreCalm seen seen' out out'
  pub texts : seen'.texts ≡ seen.texts

-- The invariant of the loop over steps.
pub record IsRunning (fresh s : Session) (seen seen' : Seen) (out out' notes notes' : SinkSeen) (first noting : Bool) : Type 0 where
  pub ran : HasRunEvents fresh s seen seen' out out' notes notes' first noting
  pub stage : s.stage ≡ Prepared

-- The text that is due at the end was written whole, and the counts decide the end; or a write failed after a prefix of it.
pub record FinishesWell (e : End) (text : List ℕ) (t : Tally) (out out' : SinkSeen) : Type 0 where
  pub end : e ≡ end_of t
  pub gains : Gains out.written out'.written text
  pub writes : out'.faults ≡ out.faults

pub record FinishesInPart (e : End) (text : List ℕ) (out out' : SinkSeen) : Type 0 where
  pub end : e ≡ end.Fault run.WriteFault
  pub gains : GainsPrefix out.written out'.written text
  pub writes : Rose out.faults out'.faults

abbrev pub FinishesRun : End → List ℕ → Tally → SinkSeen → SinkSeen → Type 0
FinishesRun e text t out out' = FinishesWell e text t out out' ⊎ FinishesInPart e text out out'

-- The streams of the session's plan were read, with the lines that were noted. `noting` says whether notes were taken before.
pub record Carries (fresh : Session) (noting : Bool) (e : End) (seen seen' : Seen) (out out' notes notes' : SinkSeen) : Type 0 where
  pub events : List Event
  pub name : List ℕ
  pub runs : Runs fresh.plan (operands_in fresh) fresh.skipped fresh.lexer.taken e events name seen seen' out out'
  pub noted : (sink : SinkSeen) (text : List ℕ) → HasNoted text noting sink notes → Notes (text ++ (all_noted events ++ line_of e name)) sink notes'
  pub causes : EndsBecause (ended_of e) seen seen' out out'
  pub texts : seen'.texts ≡ seen.texts
  pub asked : e ≢ end.Usage
