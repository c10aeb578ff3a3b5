-- The run of the command: what was read, what was written, and what ended it.
use Rattle.std.specs.Prelude.{◌≡◌, ◌≢◌, ℕ, ◌==◌, ◌⊎◌, if◌then◌else◌, List, [], ◌∷◌, ◌++◌, length, flat_map, take, true, false, Option, Some, None, fold}
use Rattle.aut_base.specs.Automaton.{Automaton}
use Rattle.aut_io.specs.Outside.{Gains, Rose, Texts}
use Rattle.aut_io.specs.Seen.{Seen, SinkSeen}
use Rattle.autfilt_run.specs.Asked.{AreRefused}
use Rattle.autfilt_run.specs.Ends.{ended_of}
use Rattle.autfilt_run.specs.Noted.{Notes}
use Rattle.autfilt_run.specs.Notes.{aborted_line, line_of}
use Rattle.autfilt_run.specs.declared.ended.End.{End}
use Rattle.autfilt_run.specs.declared.ended.End.TheVariants as end
use Rattle.autfilt_run.specs.declared.ended.Ended.{Ended}
use Rattle.autfilt_run.specs.declared.ended.Ended.TheVariants as ended
use Rattle.autfilt_run.specs.Events.{AreJudged, Event, Happen, Kept, Point, Skipped, Tally, all_written, open_by, opened_streams, start_of, tally}
use Rattle.made_stream.specs.Made.{seen_of_made}
use Rattle.autfilt_run.specs.Openings.{AreOpened, AreTried, WantsFile}
use Rattle.autfilt_run.specs.OperandEvents.{AreRead, OperandEvent, all_passed, file_open_by, opened_files, operands_read}
use Rattle.autfilt_run.specs.Plans.{count_text, prints_count, prints_each, plan_streams}
use Rattle.autfilt_run.specs.Runs.{IsCounted, IsDone, StopsRun, StopsInOperands}
use Rattle.autfilt_run.specs.declared.fault.RunFault.{RunFault}
use Rattle.autfilt_run.specs.declared.fault.RunFault.TheVariants as run
use Rattle.filter_plan.specs.Words.{IsPlan, operands}
use Rattle.filter_plan.specs.declared.plan.Plan.{Plan}
use Rattle.hoa_parser.specs.Raw.{Written}

-- ---- what is noted

-- of an event: a line about an automaton that is skipped
abbrev pub noted_of : Event → List ℕ
noted_of (Skipped name) = aborted_line name
noted_of _ = []

-- ---- how a run ends

-- the end of a run that read all
abbrev pub end_of : Tally → End
end_of t = if t.skipped == 0 then (if t.kept == 0 then end.NoneOutput else end.Output) else end.Aborts

-- The point at which the run ended, and what the inputs have left. `name` is that of the file that was tried last.
abbrev pub EndsAt : Plan → List Automaton → End → List ℕ → Point → Option (List ℕ) → Type 0
EndsAt plan ops (end.Fault f) name p left = StopsRun plan ops f name p left × IsCounted f p left
EndsAt plan ops end.Usage name p left = ⊥
EndsAt plan ops e name p left = IsDone plan p × (left ≡ p.left)

-- after these events the next stream of the plan is to be opened
abbrev pub WantsStreamFile : Plan → List Event → Type 0
WantsStreamFile plan events = WantsFile (fold open_by false events) (length (opened_streams events)) (length (plan_streams plan))

-- after these events the file of the next operand is to be opened
abbrev pub WantsOperandFile : Plan → List OperandEvent → Type 0
WantsOperandFile plan taken = WantsFile (fold file_open_by false taken) (length (opened_files taken)) (length (operands plan))

-- The events happened over these texts from this point on, and then the run ended this way.
pub record RunsTo (plan : Plan) (ops : List Automaton) (texts : Texts) (first : Point) (left' : Option (List ℕ)) (events : List Event) (e : End) (name : List ℕ) : Type 0 where
  pub point : Point
  pub happen : Happen plan texts events first point
  pub ends : EndsAt plan ops e name point left'
  -- a failed write of the number under `-c` comes after all was read
  pub numbered : e ≡ end.Fault run.WriteFault → prints_count plan ≡ true → IsDone plan point

-- ---- the operands

-- The operands of the plan were read over these texts, up to this point.
pub record AreAllRead (plan : Plan) (texts : Texts) (left : Option (List ℕ)) (taken : List OperandEvent) (p : Point) : Type 0 where
  pub read : AreRead texts taken (start_of (operands plan) left 0) p
  pub none_coming : p.coming ≡ []
  pub none_open : p.stream ≡ None

-- A fault ended the run while operands were read, after these events.
pub record EndsInOperands (plan : Plan) (texts : Texts) (left left' : Option (List ℕ)) (taken : List OperandEvent) (f : RunFault) (name : List ℕ) : Type 0 where
  pub point : Point
  pub read : AreRead texts taken (start_of (operands plan) left 0) point
  pub stops : StopsInOperands f name point left'
  pub counted : IsCounted f point left'

-- ---- what is written

-- A write failed where each automaton is printed: all texts but the last were written, and a prefix of that.
pub record BreaksOff (plan : Plan) (events : List Event) (written written' : Option (List ℕ)) : Type 0 where
  pub prints : prints_each plan ≡ true
  pub earlier : List Event
  pub automaton : Written
  pub text : List ℕ
  pub all : events ≡ earlier ++ Kept automaton text ∷ []
  pub part : ℕ
  pub gains : Gains written written' (all_written earlier ++ take part text)

-- A write failed under `-c`: a prefix of the number was written.
pub record BreaksOffCount (plan : Plan) (events : List Event) (written written' : Option (List ℕ)) : Type 0 where
  pub prints : prints_count plan ≡ true
  pub part : ℕ
  pub gains : Gains written written' (all_written events ++ take part (count_text plan (tally 0 events).kept))

-- what was written, by the events and the end
abbrev pub PrintsRun : Plan → End → List Event → Option (List ℕ) → Option (List ℕ) → Type 0
PrintsRun plan (end.Fault run.WriteFault) events written written' = BreaksOff plan events written written' ⊎ BreaksOffCount plan events written written'
PrintsRun plan (end.Fault f) events written written' = Gains written written' (all_written events)
PrintsRun plan e events written written' = Gains written written' (all_written events ++ count_text plan (tally 0 events).kept)

-- The streams of a plan were read with these operands, and the run ended this way. `before` bytes were taken by then.
pub record Runs (plan : Plan) (ops : List Automaton) (passed before : ℕ) (e : End) (events : List Event) (name : List ℕ) (seen seen' : Seen) (out out' : SinkSeen) : Type 0 where
  -- each automaton was kept or dropped by its verdict, and the text that is written is the one that is due
  pub judged : AreJudged plan ops events
  -- the events happened, and what comes after them in the texts ended the run, where the inputs' texts are known
  pub happened : (texts : Texts) → seen.texts ≡ Some texts → RunsTo plan ops texts (start_of (plan_streams plan) seen.left before) seen'.left events e name
  -- where no fault ended the run, the end follows from how many automata were kept and skipped
  pub tallied : ((f : RunFault) × (e ≡ end.Fault f)) ⊎ (e ≡ end_of (tally passed events))
  -- the streams that were opened are the first of the plan, each opened once, also where the inputs' texts aren't known
  pub named : (k : ℕ) × (opened_streams events ≡ take k (plan_streams plan))
  pub openings : AreTried e (WantsStreamFile plan events) (length (opened_streams events)) seen seen'
  pub prints : PrintsRun plan e events out.written out'.written

-- The run over the generated stream, which doesn't touch the inputs.
pub record RunsOverMade (n : ℕ) (plan : Plan) (ops : List Automaton) (passed before : ℕ) (e : End) (events : List Event) (name : List ℕ) (seen seen' : Seen) (out out' : SinkSeen) : Type 0 where
  pub untouched : seen' ≡ seen
  pub made : Seen
  pub runs : Runs plan ops passed before e events name (seen_of_made (record { count = n; left = []; openings = 0 })) made out out'

-- the run over the streams of the inputs, or over the generated one
abbrev pub RunsOverAs : Option ℕ → Plan → List Automaton → ℕ → ℕ → End → List Event → List ℕ → Seen → Seen → SinkSeen → SinkSeen → Type 0
RunsOverAs None plan ops passed before e events name seen seen' out out' = Runs plan ops passed before e events name seen seen' out out'
RunsOverAs (Some n) plan ops passed before e events name seen seen' out out' = RunsOverMade n plan ops passed before e events name seen seen' out out'

-- All operands of the plan were read, and then its streams.
pub record GoesOverAll (plan : Plan) (e : End) (taken : List OperandEvent) (events : List Event) (name : List ℕ) (seen seen' : Seen) (out out' : SinkSeen) : Type 0 where
  -- the inputs after the operands
  pub mid : Seen
  pub before : ℕ
  pub number : length (operands_read taken) ≡ length (operands plan)
  pub prepared : (texts : Texts) → seen.texts ≡ Some texts → (p : Point) × AreAllRead plan texts seen.left taken p × (p.left ≡ mid.left) × (p.before ≡ before)
  pub texts : mid.texts ≡ seen.texts
  -- the file of each operand was opened, once
  pub named : opened_files taken ≡ operands plan
  pub openings : AreOpened (length (opened_files taken)) seen mid
  pub runs : RunsOverAs plan.made plan (operands_read taken) (length (all_passed taken)) before e events name mid seen' out out'

-- A fault ended the run while operands were read. Nothing was written.
pub record FailsInOperands (plan : Plan) (e : End) (taken : List OperandEvent) (events : List Event) (name : List ℕ) (seen seen' : Seen) (out out' : SinkSeen) : Type 0 where
  pub fault : RunFault
  pub ends : e ≡ end.Fault fault
  pub no_write : fault ≢ run.WriteFault
  pub happened : (texts : Texts) → seen.texts ≡ Some texts → EndsInOperands plan texts seen.left seen'.left taken fault name
  pub named : (k : ℕ) × (opened_files taken ≡ take k (operands plan))
  pub openings : AreTried e (WantsOperandFile plan taken) (length (opened_files taken)) seen seen'
  pub none : events ≡ []
  pub output : out' ≡ out

-- A run of a plan.
abbrev pub RunsOver : Plan → End → List OperandEvent → List Event → List ℕ → Seen → Seen → SinkSeen → SinkSeen → Type 0
RunsOver plan e taken events name seen seen' out out' =
    FailsInOperands plan e taken events name seen seen' out out' ⊎ GoesOverAll plan e taken events name seen seen' out out'

-- ---- the answer

-- How a run came to its answer: its end with all details, the events, and the lines that are noted.
pub record EndsBy (words : List (List ℕ)) (result : Ended) (seen seen' : Seen) (out out' notes notes' : SinkSeen) : Type 0 where
  pub end : End
  pub shown : result ≡ ended_of end
  pub taken : List OperandEvent
  pub events : List Event
  pub name : List ℕ
  pub refused : AreRefused words → (taken ≡ []) × (events ≡ [])
  pub runs : (plan : Plan) → IsPlan words plan → (p : Plan) × IsPlan words p × RunsOver p end taken events name seen seen' out out'
  -- a line about each automaton that was skipped in the files of operands and in the streams, and one about the end
  pub noted : Notes (flat_map aborted_line (all_passed taken) ++ (flat_map noted_of events ++ line_of end name)) notes notes'

-- a count rose where this is so, and else is as it was
abbrev pub RisesWhere : Type 0 → ℕ → ℕ → Type 0
RisesWhere is before after = (is → Rose before after) × ((is → ⊥) → after ≡ before)

-- Why a run ended this way. Where an I/O fault is answered, its count rose by one, unless it had reached its last value, and no
-- other count rises. So any other answer, want of memory among them, comes only where no call failed.
pub record EndsBecause (answer : Ended) (seen seen' : Seen) (out out' : SinkSeen) : Type 0 where
  pub opens : RisesWhere (answer ≡ ended.CannotOpen) seen.open_faults seen'.open_faults
  pub reads : RisesWhere (answer ≡ ended.ReadFault) seen.read_faults seen'.read_faults
  pub writes : RisesWhere (answer ≡ ended.WriteFault) out.faults out'.faults
