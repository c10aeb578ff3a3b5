-- The end of a run that no fault ended, by how many automata were kept and skipped.
use Rattle.std.proofs.Common.{◌≡◌, ◌⊎◌, ℕ, List, inl, inr}
use Rattle.autfilt_run.specs.Events.{Event, tally}
use Rattle.autfilt_run.specs.Run.{end_of}
use Rattle.autfilt_run.specs.declared.ended.End.{End}
use Rattle.autfilt_run.specs.declared.ended.End.TheVariants as end
use Rattle.autfilt_run.specs.declared.fault.RunFault.{RunFault}

abbrev pub IsTallied : End → ℕ → List Event → Type 0
IsTallied e passed events = ((f : RunFault) × (e ≡ end.Fault f)) ⊎ (e ≡ end_of (tally passed events))

pub of_all : (e : End) (passed : ℕ) (events : List Event) → ((f : RunFault) → e ≡ end.Fault f → ⊥) → IsTallied e passed events → e ≡ end_of (tally passed events)
of_all e passed events none (inl h) = absurd (none h.0 h.1)
of_all e passed events none (inr h) = h
