-- What is open after an opening, and how its error is answered.
use Rattle.std.specs.Prelude.{◌≡◌, ℕ, List, [], ◌∷◌, Result, Ok, Err}
use Rattle.std.specs.IoError.{error_kind}
use Rattle.std.specs.declared.io.Error.{Error}
use Rattle.std.specs.declared.io.ErrorKind.{ErrorKind}
use Rattle.std.specs.declared.io.ErrorKind.TheVariants.{OutOfMemory}
use Rattle.aut_base.specs.declared.fault.OpenFail.{OpenFail}
use Rattle.aut_base.specs.declared.fault.OpenFail.TheVariants as fail
use Rattle.real_io.specs.declared.inputs.Origin.{Origin}
use Rattle.real_io.specs.declared.inputs.Origin.TheVariants.{File, Nothing}

-- the name of standard input
abbrev pub standard_name : List ℕ
standard_name = 45 ∷ []

-- why a text is not opened: want of memory, or any other error
abbrev pub fail_of : ErrorKind → OpenFail
fail_of OutOfMemory = fail.Memory
fail_of _ = fail.Failed

-- the answer to an opening, with std's error as an `OpenFail`
abbrev pub told_of : {F : Type 0} → Result F Error → Result F OpenFail
told_of (Ok file) = Ok file
told_of (Err error) = Err (fail_of (error_kind error))

-- The answer is the system's, with its error as an `OpenFail`.
pub record IsAnswered {F : Type 0} (answers : Result F Error → Type 0) (result : Result F OpenFail) : Type 0 where
  pub answer : Result F Error
  pub given : answers answer
  pub told : result ≡ told_of answer

-- What is open after a file was asked for: the file, or nothing where it was refused.
abbrev pub LeavesOpen : {F : Type 0} → Result F OpenFail → Result (Unit {0}) OpenFail → Origin F → Type 0
LeavesOpen (Ok file) result origin = (result ≡ Ok tt) × (origin ≡ File file)
LeavesOpen (Err why) result origin = (result ≡ Err why) × (origin ≡ Nothing)

-- The file that the system answered is open, or nothing is and the result says why.
pub record OpensFile {F : Type 0} (answers : Result F Error → Type 0) (result : Result (Unit {0}) OpenFail) (origin : Origin F) : Type 0 where
  pub opened : Result F OpenFail
  pub answered : IsAnswered answers opened
  pub leaves : LeavesOpen opened result origin
