-- The limits that filters, changes and refutations of a plan pass on an automaton that was read.
use Rattle.std.specs.Prelude.{◌≡◌, ◌⊎◌, true, List, MatchOption}
use Rattle.aut_base.specs.Automaton.{Automaton}
use Rattle.aut_base.specs.CanonicalLabel.{canonical}
use Rattle.aut_base.specs.declared.limit.Limit.{Limit}
use Rattle.autfilt_run.specs.Plans.{prints_each}
use Rattle.filter_plan.specs.declared.plan.Output.{Output}
use Rattle.filter_plan.specs.declared.plan.Output.TheVariants.{Hoa, Stats, Refute}
use Rattle.filter_plan.specs.declared.plan.Plan.{Plan}
use Rattle.hoa_parser.specs.Raw.{Written}
use Rattle.hoa_reader.specs.Counts.{PassesNone}
use Rattle.hoa_reader.specs.Described.{described}
use Rattle.hoa_reader.specs.Validity.{IsValid}
use Rattle.plan_meaning.specs.Changes.{StopsIn, changes_of}
use Rattle.plan_meaning.specs.Filters.{IsKept, PassesAt, filters}
use Rattle.plan_meaning.specs.Limits.{PassesOfInclusion}
use Rattle.plan_meaning.specs.Operands.{refuted_operand}

-- Printing of an automaton passes a limit: a change of it does, or the search for a refutation.
abbrev pub StopsPrinting : Output → Limit → Plan → List Automaton → Automaton → Type 0
StopsPrinting Hoa which p ops a = StopsIn which (changes_of p ops) a
StopsPrinting (Stats pieces) which p ops a = StopsIn which (changes_of p ops) a
StopsPrinting (Refute file) which p ops a = MatchOption (refuted_operand p ops) ⊥ (λ b. PassesOfInclusion which a b)

-- The same of an automaton that is kept, under a plan that prints each.
pub record IsOverPrinting (which : Limit) (p : Plan) (ops : List Automaton) (w : Written) : Type 0 where
  pub kept : IsKept p ops (described w)
  pub prints : prints_each p ≡ true
  pub stops : StopsPrinting p.output which p ops (canonical (described w))

-- The automaton is valid and within the limits of reading, but a filter passes a limit on it, or printing does.
pub record IsOverLimit (which : Limit) (p : Plan) (ops : List Automaton) (w : Written) : Type 0 where
  pub valid : IsValid w
  pub within : PassesNone w
  pub over : PassesAt which (filters p ops) (described w) ⊎ IsOverPrinting which p ops w
