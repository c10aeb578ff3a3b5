-- The outcome of filtering and printing an automaton that was read.
use Rattle.std.specs.Prelude.{◌≡◌, ◌⊎◌, ℕ, Bool, true, false, if◌then◌else◌, List, MatchOption, Option, None, Result, Ok, Err}
use Rattle.ap_project.specs.Laws.{SayTheSame}
use Rattle.aut_base.specs.Acceptance.{Accepts}
use Rattle.aut_base.specs.Automaton.{Automaton}
use Rattle.aut_io.specs.Outside.{Gains, GainsPrefix, Rose}
use Rattle.aut_io.specs.Seen.{SinkSeen}
use Rattle.autfilt_run.specs.Due.{IsDue}
use Rattle.autfilt_run.specs.Figures.{IsLine}
use Rattle.autfilt_run.specs.Over.{IsOverLimit, StopsPrinting}
use Rattle.autfilt_run.specs.Plans.{prints_each}
use Rattle.autfilt_run.specs.RefutationLine.{SaysOfInclusion}
use Rattle.filter_plan.specs.Words.{changes}
use Rattle.filter_plan.specs.declared.plan.Form.TheVariants as form
use Rattle.filter_plan.specs.declared.plan.Output.{Output}
use Rattle.filter_plan.specs.declared.plan.Output.TheVariants.{Hoa, Stats, Refute}
use Rattle.hoa_writer.specs.CanonicalText.{canonical_text}
use Rattle.autfilt_run.specs.declared.fault.RunFault.{RunFault}
use Rattle.autfilt_run.specs.declared.fault.RunFault.TheVariants as fault
use Rattle.filter_plan.specs.declared.plan.Plan.{Plan}
use Rattle.hoa_parser.specs.Raw.{Written}
use Rattle.hoa_reader.specs.Counts.{PassesNone}
use Rattle.hoa_reader.specs.Described.{described}
use Rattle.hoa_reader.specs.Elaborating.{PassesLimit}
use Rattle.hoa_reader.specs.Validity.{IsFirstBroken, IsValid}
use Rattle.hoa_writer.specs.CanonicalWritten.{ReadsBack}
use Rattle.plan_meaning.specs.Changes.{MakesAll, changes_of, set_operation}
use Rattle.plan_meaning.specs.Filters.{IsDropped, IsKept}
use Rattle.plan_meaning.specs.Limits.{IsWithinInclusion, PassesOfInclusion}
use Rattle.plan_meaning.specs.Operands.{refuted_operand}
use Rattle.plan_meaning.specs.Promises.{HasFewSetsUnder, KeepsPromises}
use Rattle.plan_meaning.specs.declared.fault.PlanFault.{PlanFault}
use Rattle.plan_meaning.specs.declared.fault.PlanFault.TheVariants as plan_fault

-- It is valid, within the limits, and kept, and this is its text.
pub record IsWanted (p : Plan) (ops : List Automaton) (w : Written) (text : List ℕ) : Type 0 where
  pub valid : IsValid w
  pub within : PassesNone w
  pub kept : IsKept p ops (described w)
  pub due : IsDue p ops w text

pub record IsUnwanted (p : Plan) (ops : List Automaton) (w : Written) : Type 0 where
  pub valid : IsValid w
  pub within : PassesNone w
  pub dropped : IsDropped p ops (described w)

-- Its text is written, up to a failed write; or it is dropped, or a fault comes of it, and nothing is written.
abbrev pub Handles : Result Bool RunFault → Plan → List Automaton → Written → SinkSeen → SinkSeen → Type 0
Handles (Ok true) p ops w out out' = (text : List ℕ) × IsWanted p ops w text × Gains out.written out'.written text × (out'.faults ≡ out.faults)
Handles (Ok false) p ops w out out' = IsUnwanted p ops w × (out' ≡ out)
Handles (Err fault.WriteFault) p ops w out out' = (text : List ℕ) × (prints_each p ≡ true) × IsWanted p ops w text × GainsPrefix out.written out'.written text × Rose out.faults out'.faults
Handles (Err (fault.Invalid rule)) p ops w out out' = IsFirstBroken rule w × (out' ≡ out)
Handles (Err (fault.Limit which)) p ops w out out' = (PassesLimit which w ⊎ IsOverLimit which p ops w) × (out' ≡ out)
Handles (Err fault.Memory) p ops w out out' = out' ≡ out
Handles _ p ops w out out' = ⊥

-- `Shown` holds of what the changes of a plan make of an automaton
pub record ShowsMade (p : Plan) (ops : List Automaton) (a : Automaton) (Shown : Automaton → Type 0) : Type 0 where
  pub made : Automaton
  pub makes : MakesAll (changes_of p ops) a made
  pub promises : KeepsPromises p made
  pub few_sets : p.form ≡ form.Parity → HasFewSetsUnder p ops a made
  pub says : SayTheSame (λ u v. Accepts made u v) (set_operation p ops a)
  pub shown : Shown made

-- a canonical text reads back
abbrev pub ShowsCanonical : Option (List ℕ) → List ℕ → Automaton → Type 0
ShowsCanonical name text made = (text ≡ canonical_text made name) × ReadsBack (canonical_text made name) made name

-- a line of `--refute`, where the search passed no limit
abbrev pub ShowsInclusion : Automaton → List ℕ → Automaton → Type 0
ShowsInclusion a text b = IsWithinInclusion a b × SaysOfInclusion a b text

-- what is printed of an automaton that has this name
abbrev pub PrintsAutomaton : Output → Plan → List Automaton → Automaton → Option (List ℕ) → List ℕ → Type 0
PrintsAutomaton Hoa p ops a name text = ShowsMade p ops a (ShowsCanonical (if changes p then None else name) text)
PrintsAutomaton (Stats pieces) p ops a name text = ShowsMade p ops a (λ made. IsLine pieces made text)
PrintsAutomaton (Refute file) p ops a name text = MatchOption (refuted_operand p ops) ⊥ (ShowsInclusion a text)

abbrev pub PrintsOrStops : Result (List ℕ) PlanFault → Output → Plan → List Automaton → Automaton → Option (List ℕ) → Type 0
PrintsOrStops (Ok text) o p ops a name = PrintsAutomaton o p ops a name text
PrintsOrStops (Err (plan_fault.Limit which)) o p ops a name = StopsPrinting o which p ops a
PrintsOrStops (Err plan_fault.Memory) o p ops a name = Unit {0}

-- the same of a refutation alone
abbrev pub TellsRefutation : Result (List ℕ) PlanFault → Plan → List Automaton → Automaton → Type 0
TellsRefutation (Ok text) p ops a = MatchOption (refuted_operand p ops) ⊥ (ShowsInclusion a text)
TellsRefutation (Err (plan_fault.Limit which)) p ops a = MatchOption (refuted_operand p ops) ⊥ (λ b. PassesOfInclusion which a b)
TellsRefutation (Err plan_fault.Memory) p ops a = Unit {0}
