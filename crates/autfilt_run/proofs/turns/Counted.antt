-- How many bytes were taken where a fault ends a run.
use Rattle.std.proofs.Common.{◌≡◌, ◌<◌, ◌≤◌, ◌⊎◌, List, ℕ, Option, inl, inr, subst}
use Rattle.aut_base.specs.declared.limit.TheConstants.{MOST_BYTES}
use Rattle.autfilt_run.specs.Events.{Point}
use Rattle.autfilt_run.specs.Runs.{IsCounted, taken_until}
use Rattle.autfilt_run.specs.Turns.{stop_of_run_fault}
use Rattle.autfilt_run.specs.declared.fault.RunFault.{RunFault}
use Rattle.autfilt_run.specs.declared.fault.RunFault.TheVariants as fault
use Rattle.hoa_lexer.specs.Moves.{IsWithinByteLimit}

pub counted : (f : RunFault) (p : Point) (left : Option (List ℕ)) → taken_until p left ≤ MOST_BYTES → IsWithinByteLimit (stop_of_run_fault f) (taken_until p left) MOST_BYTES
    → IsCounted f p left
counted f p left few within = record { few = few; reached = λ is. subst Within is within; below = below }
  where
    Within : RunFault → Type 0
    Within g = IsWithinByteLimit (stop_of_run_fault g) (taken_until p left) MOST_BYTES

    below : (f ≡ fault.Truncated) ⊎ (f ≡ fault.ReadFault) → taken_until p left < MOST_BYTES
    below (inl is) = subst Within is within
    below (inr is) = subst Within is within
