-- What one turn of the loop over operands does.
use Rattle.std.specs.Prelude.{◌≡◌, ◌⊎◌, ℕ, ◌+◌, ◌<◌, true, false, List, [], ◌∷◌, ◌++◌, length, slice_get, Some, Result, Ok, Err}
use Rattle.aut_base.specs.CanonicalLabel.{canonical}
use Rattle.aut_base.specs.declared.fault.OpenFail.{OpenFail}
use Rattle.aut_base.specs.declared.fault.OpenFail.TheVariants as opening
use Rattle.aut_io.specs.Seen.{Opens, Seen}
use Rattle.autfilt_run.specs.Events.{IsGood}
use Rattle.autfilt_run.specs.Points.{name_in, operands_in}
use Rattle.autfilt_run.specs.Runs.{StopsAtOperand}
use Rattle.autfilt_run.specs.Turns.{BeginsText, stop_of_run_fault}
use Rattle.autfilt_run.specs.declared.fault.RunFault.{RunFault}
use Rattle.autfilt_run.specs.declared.fault.RunFault.TheVariants as fault
use Rattle.autfilt_run.specs.declared.session.Session.{Session}
use Rattle.autfilt_run.specs.declared.session.operand_reading.OperandTurn.{OperandTurn}
use Rattle.autfilt_run.specs.declared.session.operand_reading.OperandTurn.TheVariants as turn
use Rattle.filter_plan.specs.Words.{operands}
use Rattle.hoa_lexer.specs.Moves.{Elsewhere, MovesLexer, Stop}
use Rattle.hoa_lexer.specs.Reading.{Between}
use Rattle.hoa_parser.specs.Raw.{Written}
use Rattle.hoa_parser.specs.Standing.{Aborted, Stands}
use Rattle.hoa_reader.specs.Described.{described}

-- what no turn changes
pub record KeepsAll (old new : Session) : Type 0 where
  pub plan : new.plan ≡ old.plan
  pub most : new.lexer.most ≡ old.lexer.most
  pub opened : new.opened ≡ old.opened
  pub kept : new.kept ≡ old.kept
  pub stage : new.stage ≡ old.stage

-- An opening of the next operand's file is tried.
pub record TriesFile (r : Result (Unit {0}) OpenFail) (old new : Session) (seen seen' : Seen) : Type 0 where
  pub name : List ℕ
  pub closed : old.is_open ≡ false
  pub next : slice_get (operands old.plan) (length old.operands) ≡ Some name
  pub in_hand : name_in new ≡ name
  pub opens : Opens seen name r seen'
  pub begins : BeginsText old new
  pub operands_same : new.operands ≡ old.operands
  pub skipped : new.skipped ≡ old.skipped

-- The open file is read: `stands` holds of what the inputs had left before and have left after.
pub record ReadsFile (stop : Stop) (stands : List ℕ → List ℕ → Type 0) (old new : Session) (seen seen' : Seen) : Type 0 where
  pub was_open : old.is_open ≡ true
  pub in_hand : new.tried ≡ old.tried
  pub read : Between seen.left seen'.left stands
  pub moves : MovesLexer stop old.lexer new.lexer seen seen'

-- an automaton was read whole, and is the next operand
pub record TakesNext (old new : Session) (seen seen' : Seen) : Type 0 where
  pub automaton : Written
  pub reads : ReadsFile Elsewhere (λ rest next. IsGood old.lexer.since rest automaton next) old new seen seen'
  pub taken : operands_in new ≡ operands_in old ++ canonical (described automaton) ∷ []
  pub one_more : length new.operands ≡ length old.operands + 1
  pub closed : new.is_open ≡ false
  pub skipped : new.skipped ≡ old.skipped

-- an abandoned automaton was skipped
pub record PassesOne (old new : Session) (seen seen' : Seen) : Type 0 where
  pub reads : ReadsFile Elsewhere (λ rest next. Stands (Aborted next) old.lexer.since rest) old new seen seen'
  pub still_open : new.is_open ≡ true
  pub operands_same : new.operands ≡ old.operands
  pub rises : old.lexer.taken < new.lexer.taken
  pub skipped : new.skipped ≡ old.skipped + 1

pub record OpensOperandFile (old new : Session) (seen seen' : Seen) : Type 0 where
  pub tries : TriesFile (Ok tt) old new seen seen'
  pub now_open : new.is_open ≡ true

-- all operands are read
pub record IsAllTaken (old new : Session) (seen seen' : Seen) : Type 0 where
  pub closed : old.is_open ≡ false
  pub all : length old.operands ≡ length (operands old.plan)
  pub same : new ≡ old
  pub inputs : seen' ≡ seen

pub record FailsReading (f : RunFault) (old new : Session) (seen seen' : Seen) : Type 0 where
  pub reads : ReadsFile (stop_of_run_fault f) (StopsAtOperand f old.lexer.since) old new seen seen'
  pub skipped : new.skipped ≡ old.skipped

abbrev pub FailsOperand : RunFault → Session → Session → Seen → Seen → Type 0
FailsOperand fault.CannotOpen old new seen seen' = TriesFile (Err opening.Failed) old new seen seen'
FailsOperand fault.WriteFault old new seen seen' = ⊥
FailsOperand fault.Memory old new seen seen' = TriesFile (Err opening.Memory) old new seen seen' ⊎ FailsReading fault.Memory old new seen seen'
FailsOperand f old new seen seen' = FailsReading f old new seen seen'

abbrev pub TurnsAs : Result OperandTurn RunFault → Session → Session → Seen → Seen → Type 0
TurnsAs (Ok turn.Opened) = OpensOperandFile
TurnsAs (Ok turn.Taken) = TakesNext
TurnsAs (Ok turn.Skipped) = PassesOne
TurnsAs (Ok turn.Done) = IsAllTaken
TurnsAs (Err f) = FailsOperand f

pub record TurnsOperands (r : Result OperandTurn RunFault) (old new : Session) (seen seen' : Seen) : Type 0 where
  pub turns : TurnsAs r old new seen seen'
  pub keeps : KeepsAll old new
