-- The words of a command line, as a list of arguments has them.
use Rattle.std.specs.Prelude.{ℕ, List, String, drop, map}
use Rattle.std.specs.declared.io.ErrorKind.{ErrorKind}
use Rattle.std.specs.declared.io.ErrorKind.TheVariants.{OutOfMemory}
use Rattle.autfilt_run.specs.declared.ended.End.{End}
use Rattle.autfilt_run.specs.declared.ended.End.TheVariants as end
use Rattle.autfilt_run.specs.declared.fault.RunFault.TheVariants as fault

-- the words after the program's name, which is the first argument, byte for byte
abbrev pub words_in : {A : Type 0} → List (String A) → List (List ℕ)
words_in args = map (λ s. s.bytes.items) (drop 1 args)

-- how a run ends where the arguments can't be had, by the kind of the error
abbrev pub end_without : ErrorKind → End
end_without OutOfMemory = end.Fault fault.Memory
end_without _ = end.Usage
