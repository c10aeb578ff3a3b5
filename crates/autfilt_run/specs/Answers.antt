-- How a call of the program ends, by its arguments: a run and its exit status, or no run.
use Rattle.std.specs.Prelude.{◌≡◌, ◌⊎◌, ℕ, List, []}
use Rattle.std.specs.Process.{exit_status}
use Rattle.std.specs.declared.process.ExitCode.{ExitCode}
use Rattle.aut_io.specs.Seen.{Seen, SinkSeen}
use Rattle.autfilt_run.specs.Asked.{AreRefused}
use Rattle.autfilt_run.specs.Ends.{ended_of}
use Rattle.autfilt_run.specs.Noted.{Notes}
use Rattle.autfilt_run.specs.Notes.{line_of}
use Rattle.autfilt_run.specs.Run.{EndsBecause, EndsBy}
use Rattle.autfilt_run.specs.Status.{status_of}
use Rattle.autfilt_run.specs.declared.ended.End.{End}
use Rattle.autfilt_run.specs.declared.ended.End.TheVariants as end
use Rattle.autfilt_run.specs.declared.ended.Ended.{Ended}
use Rattle.autfilt_run.specs.declared.ended.Ended.TheVariants as ended
use Rattle.autfilt_run.specs.declared.fault.RunFault.TheVariants as fault

-- a run of the words, whose status is that of the answer
pub record ExitsAfterRun (words : List (List ℕ)) (code : ExitCode) (seen seen' : Seen) (out out' notes notes' : SinkSeen) : Type 0 where
  pub answer : Ended
  pub status : exit_status code ≡ status_of answer
  pub run : EndsBy words answer seen seen' out out' notes notes'
  pub causes : EndsBecause answer seen seen' out out'
  pub usage : answer ≡ ended.Usage → AreRefused words
  -- Words that are no plan are refused, and then nothing is opened, read or written.
  pub refused : AreRefused words → (answer ≡ ended.Usage) ⊎ (answer ≡ ended.Memory)
  pub untouched : AreRefused words → (seen' ≡ seen) × (out' ≡ out)

-- No run began: nothing was opened, read or written but the line that says why.
pub record RefusesRun (why : End) (code : ExitCode) (seen seen' : Seen) (out out' notes notes' : SinkSeen) : Type 0 where
  pub status : exit_status code ≡ status_of (ended_of why)
  pub inputs : seen' ≡ seen
  pub output : out' ≡ out
  pub noted : Notes (line_of why []) notes notes'

-- a run of the words, or want of memory before it began
abbrev pub EndsProgram : List (List ℕ) → ExitCode → Seen → Seen → SinkSeen → SinkSeen → SinkSeen → SinkSeen → Type 0
EndsProgram words code seen seen' out out' notes notes' =
    ExitsAfterRun words code seen seen' out out' notes notes' ⊎ RefusesRun (end.Fault fault.Memory) code seen seen' out out' notes notes'
