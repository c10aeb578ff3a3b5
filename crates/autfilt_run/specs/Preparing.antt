-- What a call of `prepare` does: it reads operands.
use Rattle.std.specs.Prelude.{◌≡◌, ◌≢◌, ℕ, ◌+◌, ◌<◌, true, List, [], ◌∷◌, ◌++◌, length, take, Some, Result, Ok, Err, fold}
use Rattle.aut_io.specs.Outside.{Rose, Texts}
use Rattle.aut_io.specs.Seen.{Seen}
use Rattle.autfilt_run.specs.Events.{Point}
use Rattle.autfilt_run.specs.Openings.{AreOpened, AreTried, WantsFile}
use Rattle.autfilt_run.specs.OperandEvents.{AreRead, OperandEvent, PassedOver, all_passed, file_open_by, opened_files, operands_read}
use Rattle.autfilt_run.specs.Points.{StandsIn, name_in, open_count, operands_in}
use Rattle.autfilt_run.specs.Runs.{IsCounted, StopsInOperands}
use Rattle.autfilt_run.specs.declared.ended.End.TheVariants as end
use Rattle.autfilt_run.specs.declared.fault.RunFault.{RunFault}
use Rattle.autfilt_run.specs.declared.fault.RunFault.TheVariants as fault
use Rattle.autfilt_run.specs.declared.session.Prep.{Prep}
use Rattle.autfilt_run.specs.declared.session.Prep.TheVariants.{Ready, Skipped}
use Rattle.autfilt_run.specs.declared.session.Session.{Session}
use Rattle.filter_plan.specs.Words.{operands}

-- the names of the operands whose files were opened, in order
abbrev pub opened_names : Session → List (List ℕ)
opened_names s = take (length s.operands + open_count s.is_open) (operands s.plan)

-- The events happened, each file was opened once, and no I/O fault was counted.
pub record HasReadOperands (events : List OperandEvent) (old new : Session) (seen seen' : Seen) : Type 0 where
  pub operands : operands_in new ≡ operands_in old ++ operands_read events
  -- where the inputs' texts are known
  pub happened : (texts : Texts) → seen.texts ≡ Some texts → (p : Point) → StandsIn old seen.left p → (q : Point) × AreRead texts events p q × StandsIn new seen'.left q
  pub named : opened_names new ≡ opened_names old ++ opened_files events
  pub still : new.is_open ≡ fold file_open_by old.is_open events
  pub openings : AreOpened (length (opened_files events)) seen seen'
  pub opens : seen'.open_faults ≡ seen.open_faults
  pub reads : seen'.read_faults ≡ seen.read_faults
  pub texts : seen'.texts ≡ seen.texts

-- All operands are read, and no abandoned automaton was skipped in this call.
pub record HasAllOperands (old new : Session) (seen seen' : Seen) : Type 0 where
  pub events : List OperandEvent
  pub read : HasReadOperands events old new seen seen'
  pub passed : all_passed events ≡ []
  pub all : length new.operands ≡ length (operands new.plan)
  pub skipped : new.skipped ≡ old.skipped

-- One abandoned automaton was skipped, and no other in this call; it is of the file whose name is in hand. It is the last
-- event: nothing was read after it, and the file is still open.
pub record HasSkipped (old new : Session) (seen seen' : Seen) : Type 0 where
  pub before : List OperandEvent
  pub read : HasReadOperands (before ++ PassedOver (name_in new) ∷ []) old new seen seen'
  pub passed : all_passed before ≡ []
  pub still_open : new.is_open ≡ true
  pub rises : old.lexer.taken < new.lexer.taken
  pub skipped : new.skipped ≡ old.skipped + 1

-- An I/O fault comes only where its count rose, any other only where none did.
abbrev pub CountsAt : RunFault → Seen → Seen → Type 0
CountsAt fault.CannotOpen seen seen' = Rose seen.open_faults seen'.open_faults × (seen'.read_faults ≡ seen.read_faults)
CountsAt fault.ReadFault seen seen' = (seen'.open_faults ≡ seen.open_faults) × Rose seen.read_faults seen'.read_faults
CountsAt _ seen seen' = (seen'.open_faults ≡ seen.open_faults) × (seen'.read_faults ≡ seen.read_faults)

-- After these events the file of the next operand is to be opened.
abbrev pub WantsOperand : Session → List OperandEvent → Type 0
WantsOperand old events = WantsFile (fold file_open_by old.is_open events) (length (opened_names old ++ opened_files events)) (length (operands old.plan))

-- These events happened, and then the fault came.
pub record FailsToPrepare (f : RunFault) (old new : Session) (seen seen' : Seen) : Type 0 where
  pub events : List OperandEvent
  pub happened : (texts : Texts) → seen.texts ≡ Some texts → (p : Point) → StandsIn old seen.left p
      → (q : Point) × AreRead texts events p q × StopsInOperands f (name_in new) q seen'.left × IsCounted f q seen'.left
  pub passed : all_passed events ≡ []
  pub skipped : new.skipped ≡ old.skipped
  pub no_write : f ≢ fault.WriteFault
  pub counts : CountsAt f seen seen'
  pub named : (k : ℕ) × (opened_names old ++ opened_files events ≡ take k (operands old.plan))
  pub openings : AreTried (end.Fault f) (WantsOperand old events) (length (opened_files events)) seen seen'

abbrev pub Prepares : Result Prep RunFault → Session → Session → Seen → Seen → Type 0
Prepares (Ok Ready) = HasAllOperands
Prepares (Ok Skipped) = HasSkipped
Prepares (Err f) = FailsToPrepare f
