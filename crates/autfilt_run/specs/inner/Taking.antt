-- The automaton that is built of what was parsed.
use Rattle.std.specs.Prelude.{◌≡◌, Result, Ok, Err}
use Rattle.aut_base.specs.Automaton.{Automaton, IsWellFormed}
use Rattle.aut_base.specs.CanonicalLabel.{canonical}
use Rattle.aut_core.specs.SymbolicAutomata.{automaton_of}
use Rattle.autfilt_run.specs.declared.fault.RunFault.{RunFault}
use Rattle.autfilt_run.specs.declared.fault.RunFault.TheVariants as fault
use Rattle.hoa_parser.specs.Naming.{name_of}
use Rattle.hoa_parser.specs.Raw.{Written}
use Rattle.hoa_reader.specs.Counts.{PassesNone}
use Rattle.hoa_reader.specs.Described as reader
use Rattle.hoa_reader.specs.Elaborating.{PassesLimit}
use Rattle.hoa_reader.specs.Validity.{IsFirstBroken, IsValid}
use Rattle.hoa_reader.specs.declared.elaborate.Named.{Named}
use Rattle.plan_meaning.specs.Operands.{IsOfReadSize}

-- What is known of an automaton that was built, with labels in canonical form.
pub record IsReadAs (w : Written) (core : Automaton) : Type 0 where
  pub valid : IsValid w
  pub within : PassesNone w
  pub described : Automaton
  pub is : core ≡ canonical described
  pub same : described ≡ reader.described w
  pub formed : IsWellFormed described
  pub size : IsOfReadSize core

abbrev pub TakesAutomaton : Result Named RunFault → Written → Type 0
TakesAutomaton (Ok read) w = IsReadAs w (automaton_of read.automaton) × (read.name ≡ name_of w)
TakesAutomaton (Err (fault.Invalid rule)) w = IsFirstBroken rule w
TakesAutomaton (Err (fault.Limit which)) w = PassesLimit which w
TakesAutomaton (Err fault.Memory) w = Unit {0}
TakesAutomaton (Err _) w = ⊥
