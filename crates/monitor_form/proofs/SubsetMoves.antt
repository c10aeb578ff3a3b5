-- Parts of the steps of the sets that are explored, under the names by which proofs speak of them.
use Rattle.std.proofs.Common.{◌≡◌, ◌==◌, ℕ, suc, Bool, cond, if◌then◌else◌, List, ◌∷◌, Option, ap, arith, length, ne_eqb}
use Rattle.std.specs.Option.{option_map_or}
use Rattle.aut_base.specs.Automaton.{Automaton}
use Rattle.exploration.specs.TransitionFunctions.{NoSuccessor, StepOutcome, Successor}
use Rattle.monitor_form.specs.Subsets.{successor_set}

-- the set, unless it is empty
abbrev pub unless_empty : List ℕ → StepOutcome (List ℕ)
unless_empty qs = if length qs == 0 then NoSuccessor else Successor qs

pub some_set : (q : ℕ) (qs : List ℕ) → unless_empty (q ∷ qs) ≡ Successor (q ∷ qs)
some_set q qs = ap (λ b. cond b NoSuccessor (Successor (q ∷ qs))) (ne_eqb (suc (length qs)) 0 (λ e. absurd (omega (arith, e))))

-- the step at the valuation of a class, if there is such a class
abbrev pub subset_step : Automaton → List ℕ → Option (List Bool) → StepOutcome (List ℕ)
subset_step b set o = option_map_or (λ v. unless_empty (successor_set b set v)) o NoSuccessor
