-- What the filters of a plan ask of an automaton, and the verdict on it.
use Rattle.std.specs.Prelude.{◌≡◌, Bool, true, false, MatchBool, List, [], ◌∷◌, length, Option, Result, Ok, Err}
use Rattle.std.specs.Bool.{then_some}
use Rattle.std.specs.List.{AllByRecursion}
use Rattle.std.specs.Option.{option_map}
use Rattle.aut_base.specs.Automaton.{Automaton}
use Rattle.aut_base.specs.CanonicalLabel.{canonical}
use Rattle.aut_base.specs.Lists.{FirstIn}
use Rattle.aut_base.specs.declared.limit.Limit.{Limit}
use Rattle.aut_base.specs.declared.limit.Limit.TheVariants as limit
use Rattle.aut_base.specs.declared.limit.TheConstants.{MOST_PAIRS}
use Rattle.aut_core.specs.Deterministic as core
use Rattle.aut_core.specs.OtherNames.{AcceptTheSame}
use Rattle.aut_ops.specs.Products.{HasMorePairs}
use Rattle.filter_plan.specs.Spans.{IsInRange}
use Rattle.filter_plan.specs.declared.plan.Plan.{Plan}
use Rattle.filter_plan.specs.declared.range.Range.{Range}
use Rattle.lasso_emptiness.specs.Emptiness.{AcceptsNothing}
use Rattle.plan_meaning.specs.Limits.{IsIncluded, PassesOfBoth, PassesOfEquivalence, PassesOfInclusion, PassesOfWord, limits_of_inclusion, limits_of_product}
use Rattle.plan_meaning.specs.Operands.{operand_at, place_of_equivalent_to, place_of_included_in, place_of_intersect}
use Rattle.plan_meaning.specs.Standing.{those_standing}
use Rattle.plan_meaning.specs.declared.fault.PlanFault.{PlanFault}
use Rattle.plan_meaning.specs.declared.fault.PlanFault.TheVariants as fault
use Rattle.unambiguous.specs.Runs as runs
use Rattle.word_syntax.specs.Grammar.{WordPattern}
use Rattle.word_syntax.specs.Matching.{AcceptTogether, AcceptsPattern}
use Rattle.word_syntax.specs.Writing.{word_pattern}

-- a filter, with its operand, pattern or range
pub data Filter : Type 0 where
  AcceptsWord : WordPattern → Filter
  RejectsWord : WordPattern → Filter
  IsEmpty : Filter
  IncludedIn : Automaton → Filter
  EquivalentTo : Automaton → Filter
  Intersects : Automaton → Filter
  IsDeterministic : Filter
  IsComplete : Filter
  IsUnambiguous : Filter
  States : Range → Filter
  Edges : Range → Filter
  Sets : Range → Filter
  Names : Range → Filter

-- the automaton is as the filter asks, over all lasso words
abbrev pub Holds : Filter → Automaton → Type 0
Holds (AcceptsWord p) a = AcceptsPattern p a
Holds (RejectsWord p) a = AcceptsPattern p a → ⊥
Holds IsEmpty a = AcceptsNothing a
Holds (IncludedIn b) a = IsIncluded a b
Holds (EquivalentTo b) a = AcceptTheSame a b
Holds (Intersects b) a = AcceptTogether a b
Holds IsDeterministic a = core.IsDeterministic a
Holds IsComplete a = core.IsComplete a
Holds IsUnambiguous a = runs.IsUnambiguous a
Holds (States r) a = IsInRange r a.states
Holds (Edges r) a = IsInRange r (length a.edges)
Holds (Sets r) a = IsInRange r a.sets
Holds (Names r) a = IsInRange r (length a.names)

-- the limit is the first that a count of the filter passes, on the automaton with canonical labels
abbrev pub PassesLimitOf : Limit → Filter → Automaton → Type 0
PassesLimitOf which (AcceptsWord p) a = PassesOfWord which (canonical a) p
PassesLimitOf which (RejectsWord p) a = PassesOfWord which (canonical a) p
PassesLimitOf which (Intersects b) a = PassesOfBoth which (canonical a) b
PassesLimitOf which (IncludedIn b) a = PassesOfInclusion which (canonical a) b
PassesLimitOf which (EquivalentTo b) a = PassesOfEquivalence which (canonical a) b
PassesLimitOf which IsEmpty a = ⊥
PassesLimitOf which IsDeterministic a = ⊥
PassesLimitOf which IsComplete a = ⊥
-- the pairs of it with itself that are reached
PassesLimitOf which IsUnambiguous a = (which ≡ limit.Pairs) × HasMorePairs MOST_PAIRS (canonical a) (canonical a)
PassesLimitOf which (States r) a = ⊥
PassesLimitOf which (Edges r) a = ⊥
PassesLimitOf which (Sets r) a = ⊥
PassesLimitOf which (Names r) a = ⊥

-- the limits that a filter may pass: it passes none of the others
abbrev pub limits_of_filter : Filter → List Limit
limits_of_filter (AcceptsWord p) = limits_of_product
limits_of_filter (RejectsWord p) = limits_of_product
limits_of_filter IsEmpty = []
limits_of_filter (IncludedIn b) = limits_of_inclusion
limits_of_filter (EquivalentTo b) = limits_of_inclusion
limits_of_filter (Intersects b) = limits_of_product
limits_of_filter IsDeterministic = []
limits_of_filter IsComplete = []
limits_of_filter IsUnambiguous = limit.Pairs ∷ []
limits_of_filter (States r) = []
limits_of_filter (Edges r) = []
limits_of_filter (Sets r) = []
limits_of_filter (Names r) = []

-- The filter is examined within all limits, and it holds, or doesn't.
pub record HoldsWithin (f : Filter) (a : Automaton) : Type 0 where
  pub within : (which : Limit) → PassesLimitOf which f a → ⊥
  pub holds : Holds f a

pub record LacksWithin (f : Filter) (a : Automaton) : Type 0 where
  pub within : (which : Limit) → PassesLimitOf which f a → ⊥
  pub fails : Holds f a → ⊥

-- ---- the filters of a plan

-- the filters in the order in which they are examined, each if its option is given
abbrev pub filter_options : Plan → List Automaton → List (Option Filter)
filter_options p ops = option_map (λ pattern. AcceptsWord (word_pattern pattern)) p.accept_word
    ∷ option_map (λ pattern. RejectsWord (word_pattern pattern)) p.reject_word
    ∷ then_some p.is_empty IsEmpty
    ∷ option_map IncludedIn (operand_at p.included_in place_of_included_in ops)
    ∷ option_map EquivalentTo (operand_at p.equivalent_to (place_of_equivalent_to p) ops)
    ∷ option_map Intersects (operand_at p.intersect (place_of_intersect p) ops)
    ∷ then_some p.is_deterministic IsDeterministic
    ∷ then_some p.is_complete IsComplete
    ∷ then_some p.is_unambiguous IsUnambiguous
    ∷ option_map States p.states
    ∷ option_map Edges p.edges
    ∷ option_map Sets p.acc_sets
    ∷ option_map Names p.ap
    ∷ []

abbrev pub filters : Plan → List Automaton → List Filter
filters p ops = those_standing (filter_options p ops)

-- ---- the verdict

abbrev pub AllHold : List Filter → Automaton → Type 0
AllHold fs a = AllByRecursion (λ f. HoldsWithin f a) fs

-- A filter doesn't hold, and all before it do: it is the last that is examined.
abbrev pub FailsAtFilter : List Filter → Automaton → Type 0
FailsAtFilter fs a = (f : Filter) × FirstIn (λ g. HoldsWithin g a) fs f × LacksWithin f a

-- A filter passes a limit before a verdict is reached: all before it hold.
abbrev pub PassesAt : Limit → List Filter → Automaton → Type 0
PassesAt which fs a = (f : Filter) × FirstIn (λ g. HoldsWithin g a) fs f × PassesLimitOf which f a

-- An automaton is kept where all filters hold, and dropped where one doesn't; the other way round where the plan inverts.
abbrev pub IsKept : Plan → List Automaton → Automaton → Type 0
IsKept p ops a = MatchBool p.invert (FailsAtFilter (filters p ops) a) (AllHold (filters p ops) a)

abbrev pub IsDropped : Plan → List Automaton → Automaton → Type 0
IsDropped p ops a = MatchBool p.invert (AllHold (filters p ops) a) (FailsAtFilter (filters p ops) a)

-- what each answer of `judge` means
abbrev pub Judged : Result Bool PlanFault → Plan → List Automaton → Automaton → Type 0
Judged (Ok true) p ops a = IsKept p ops a
Judged (Ok false) p ops a = IsDropped p ops a
Judged (Err (fault.Limit which)) p ops a = PassesAt which (filters p ops) a
Judged (Err fault.Memory) p ops a = Unit {0}
